-- What a C call leaves fits the same stores. Assumes nothing.
use Prim.Native.Nat.{ℕ}
use native.Mathlib.Omega.{arith}
use mathlib.Core.Path.{◌≡◌, refl, sym, ap, subst, ◌∙◌}
use mathlib.Core.Bool.{Bool, true, false}
use mathlib.Core.List.{List}
use lib.ListN.{length}
use lib.Dec.{eqb}
use borrow.Author.Tests.{eqb-true}
use Rattle.branches.proofs.Branches.{and_left, by_cond}
use Rattle.answers.specs.Answers.{Said, done, refused, is_refusal}
use Rattle.answers.specs.Word.{word, word_with, kind_of, value_of}
use Rattle.codec.specs.Blocks.{is_state, fitting_block}
use Rattle.codec.proofs.Same.{state_length}
use Rattle.codec.proofs.Laws.{packed_length}
use Rattle.boundary.specs.Product.{Product, Held, fits_held, said, room, after}
use Rattle.boundary.specs.CCalls.{Lent, CDid, held_in, opened, fitting, closed, c_step}
use Rattle.boundary.specs.Numbers.{answer_of}
use Rattle.boundary.specs.CFitting.{BlockKeepsFit, CreateFits, SameLengths, LengthsStay}
use Rattle.boundary.specs.Formed.{Formed}
use Rattle.boundary.specs.Kept.{SameSizes, Kept}
use Rattle.boundary.proofs.Laws.{by_call, fits_in, create_call, show_step, on_step, refusal_keeps, wrong_block_refused}
use Rattle.boundary.proofs.Words.{done_told}
use Rattle.boundary.proofs.Opened.{opened_typed, closed_world, call_means}
use Rattle.boundary.proofs.Answers.{other_length}

same_lengths : (l k : Lent) → k ≡ l → SameLengths l k
same_lengths l k e = subst (SameLengths l) (sym e) (record { block = refl; first = refl; second = refl })

module _ (P : Product) (F : Formed P) (K : Kept P) where
  -- a block fits exactly if the state of the world that it stands in does
  abbrev Fits : P.World → Type 0
  Fits w = fits_held P (P.apart w) ≡ true

  to_block : (l : Lent) → Fits (opened P l) → fitting P l ≡ true
  to_block l e = sym (fits_in P F l) ∙ ap (fits_held P) (sym (F.back (held_in P l))) ∙ e

  to_world : (l : Lent) → fitting P l ≡ true → Fits (opened P l)
  to_world l e = ap (fits_held P) (F.back (held_in P l)) ∙ fits_in P F l ∙ e

  fitting_length : (l : Lent) → fitting P l ≡ true → length l.block ≡ P.layout.len
  unfolding fitting_block
  fitting_length l e = state_length P.layout l.block (and_left (is_state P.layout l.block) _ e)

  pub block_keeps_fit : BlockKeepsFit P
  block_keeps_fit c l h e =
      to_block (c_step P c l).lent
      (subst Fits (sym (call_means P F K c l (record { size = fitting_length l e; lendable = h })).world)
      (K.keeps_fit c (opened P l) (opened_typed P F K l h).fine (to_world l e)))

  -- ---- create

  pub create_fits : CreateFits P
  unfolding word kind_of value_of closed
  create_fits m l e = pick (eqb (length l.block) P.layout.len) refl
    where
      w : P.World
      w = opened P l

      a : Said
      a = said P (P.create m) w

      pick : (t : Bool) → eqb (length l.block) P.layout.len ≡ t → fitting P (c_step P (P.create m) l).lent ≡ true
      pick true q =
          let c : c_step P (P.create m) l ≡ closed P l (word a) a (P.apart (after P (P.create m) w)) = create_call P F m l (eqb-true (length l.block) P.layout.len q) in
          let n : word a ≡ word done = ap (λ (x : CDid). x.word) (sym c) ∙ e in
          let d : a ≡ done = sym (K.told_create m w) ∙ ap (answer_of P.given) n ∙ done_told P.given in
          let o : opened P (c_step P (P.create m) l).lent ≡ after P (P.create m) w =
          ap (λ (x : CDid). opened P x.lent) c ∙ closed_world P F K l (word a) a (after P (P.create m) w) (refusal_keeps P F (P.create m) w) (K.made_ranged m w d) in
          to_block (c_step P (P.create m) l).lent (subst Fits (sym o) (K.makes_fit m w d))
      pick false q =
          let z : ◌≡◌ {A = ℕ} (word (refused 1)) (word done) = ap (λ (x : CDid). x.word) (sym (wrong_block_refused P F m l q)) ∙ e in
          absurd (omega (arith, z))

  -- ---- lengths

  pub lengths_stay : LengthsStay P
  unfolding closed
  lengths_stay c l = pick (eqb (length l.block) P.layout.len) refl
    where
      closing : (c : P.Call) (n : ℕ) → c_step P c l ≡ closed P l n (said P c (opened P l)) (P.apart (after P c (opened P l))) → length l.block ≡ P.layout.len →
          SameLengths l (c_step P c l).lent
      closing c n q e =
          let s = subst (λ (h : Held P.State). SameSizes h (P.apart (after P c (opened P l)))) (F.back (held_in P l)) (K.sizes c (opened P l)) in
          subst (λ (x : CDid). SameLengths l x.lent) (sym q)
          (record {
            block =
                by_cond (λ (b : List ℕ). length b ≡ length l.block) (is_refusal (said P c (opened P l))) _ _
                (λ t. refl)
                (λ t. packed_length P.layout (P.apart (after P c (opened P l))).state ∙ sym e);
            first = s.first;
            second = s.second;
          })

      pick : (t : Bool) → eqb (length l.block) P.layout.len ≡ t → SameLengths l (c_step P c l).lent
      pick false q = same_lengths l (c_step P c l).lent (other_length P F c l q)
      pick true q =
          let e : length l.block ≡ P.layout.len = eqb-true (length l.block) P.layout.len q in
          by_call P F (λ x. SameLengths l (c_step P x l).lent)
          (λ m. closing (P.create m) (word (said P (P.create m) (opened P l))) (create_call P F m l e) e)
          (λ side. same_lengths l _ (ap (λ (x : CDid). x.lent) (show_step P F side l)))
          (λ x. closing (P.on x) (word_with (said P (P.on x) (opened P l)) (room P (P.on x) (opened P l))) (on_step P F x l) e)
          c
