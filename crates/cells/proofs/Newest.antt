-- The newest cell replaced: what is held is as it was but for the last. Assumes nothing.
use Prim.Native.Nat.{ℕ, ◌+◌, ◌-◌, ◌<◌}
use native.Mathlib.Omega.{arith}
use mathlib.Core.Path.{◌≡◌, refl, sym, ap, ◌∙◌}
use mathlib.Core.List.{List}
use mathlib.Core.Logic.{⊎_elim}
use lib.ListN.{length, get_or, set, length-set}
use lib.Seq.{get_or-set_same, get_or-set_other, ext_get_or}
use Rattle.branches.proofs.Branches.{split}
use Rattle.store.specs.declared.Ring.{Ring}
use Rattle.store.specs.Ring.{Fit, wrap, held}
use Rattle.store.proofs.Places.{wrap_apart}
use Rattle.store.proofs.Laws.{wrap_below, held_length, held_item}
use Rattle.cells.specs.Newest.{replaced_cells, Replaced}

pub replaced_size : {A : Type 0} (s : List A) (r : Ring) (c : A) → length (replaced_cells s r c) ≡ length s
unfolding replaced_cells
replaced_size s r c = length-set s (wrap r.cap (r.oldest + (r.len - 1))) c

pub replaced_fit : {A : Type 0} (s : List A) (r : Ring) (c : A) → Fit s r → Fit (replaced_cells s r c) r
replaced_fit s r c f = record { cap = f.cap ∙ sym (replaced_size s r c); within = f.within }

pub held_replaced : {A : Type 0} (s : List A) (r : Ring) (c : A) → Fit s r → 0 < r.len → held (replaced_cells s r c) r ≡ set (held s r) (r.len - 1) c
unfolding replaced_cells
held_replaced s r c f h =
    let f' : Fit (replaced_cells s r c) r = replaced_fit s r c f in
    let last : ℕ = r.len - 1 in
    let at : ℕ = wrap r.cap (r.oldest + last) in
    let below : at < length s = omega (arith, f.cap, wrap_below r.cap (r.oldest + last) (omega (arith, f.within.oldest, f.within.len))) in
    let n : length (held (replaced_cells s r c) r) ≡ r.len = held_length (replaced_cells s r c) r f' in
    let m : length (held s r) ≡ r.len = held_length s r f in
    ext_get_or c (held (replaced_cells s r c) r) (set (held s r) last c)
    (n ∙ sym (length-set (held s r) last c ∙ m))
    (λ i l.
    held_item (replaced_cells s r c) r i c f' (omega (arith, n))
    ∙ ⊎_elim
    (λ o. get_or-set_other s at (wrap r.cap (r.oldest + i)) c c
    (wrap_apart r.cap r.oldest i last f.within.oldest o (omega (arith, f.within.len)))
    ∙ sym (held_item s r i c f (omega (arith, n)))
    ∙ sym (get_or-set_other (held s r) last i c c (λ e. omega (arith, e))))
    (λ o. let e : i ≡ last = omega (arith, n) in
    ap (λ (k : ℕ). get_or (set s at c) (wrap r.cap (r.oldest + k)) c) e
    ∙ get_or-set_same s at c c below
    ∙ sym (get_or-set_same (held s r) last c c (omega (arith, m)))
    ∙ ap (λ (k : ℕ). get_or (set (held s r) last c) k c) (sym e))
    (split i last))

-- at the place that the code found
pub replaced_at : {A : Type 0} (s : List A) (r : Ring) (c : A) (at : ℕ) → Fit s r → 0 < r.len → at ≡ wrap r.cap (r.oldest + (r.len - 1)) → Replaced s r c (set s at c)
unfolding replaced_cells
replaced_at s r c at f h e =
    rw e (record { cells = refl; size = replaced_size s r c; fit = replaced_fit s r c f; holds = held_replaced s r c f h })
