-- A run of C calls is the run of the product's calls, packed: what is proved of runs of the product holds of runs of C calls. Assumes nothing.
use Prim.Native.Nat.{ℕ}
use mathlib.Core.Path.{refl, ap, ◌∙◌}
use mathlib.Core.List.{List, [], ◌∷◌}
use Rattle.machine.specs.Machine.{finally}
use Rattle.boundary.specs.Product.{Product, after}
use Rattle.boundary.specs.CCalls.{CDid}
use Rattle.boundary.specs.CRuns.{answer_word, words, c_words, Typed, c_functions}
use Rattle.boundary.specs.CLaws.{SameEnd, SameWords}
use Rattle.boundary.specs.Formed.{Formed}
use Rattle.boundary.specs.Kept.{Kept}
use Rattle.boundary.proofs.Laws.{same_call}

module _ (P : Product) (F : Formed P) (K : Kept P) where
  typed_kept : (c : P.Call) (w : P.World) → P.Fair c → Typed P w → Typed P (after P c w)
  typed_kept c w b h = record { state = K.ranged c w h; fine = K.fine_kept c w b h.fine }

  pub same_end : SameEnd P
  unfolding finally
  same_end [] w b h = refl
  same_end (c ∷ cs) w b h =
      ap (λ (r : CDid). finally (c_functions P) cs r.lent) (same_call P F c w h.state)
      ∙ same_end cs (after P c w) b.1 (typed_kept c w b.0 h)

  pub same_words : SameWords P
  unfolding c_words words
  same_words [] w b h = refl
  same_words (c ∷ cs) w b h =
      ap (λ (r : CDid). r.word ∷ c_words P cs r.lent) (same_call P F c w h.state)
      ∙ ap (λ (ns : List ℕ). answer_word P c w ∷ ns) (same_words cs (after P c w) b.1 (typed_kept c w b.0 h))
