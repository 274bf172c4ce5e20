-- What the comparison of a block with the bytes of its state comes to, on plain values. Assumes nothing.
use Prim.Native.Nat.{ℕ}
use mathlib.Core.Path.{◌≡◌, refl, sym, subst, ◌∙◌}
use mathlib.Core.Bool.{Bool, true, false, true≢false}
use mathlib.Core.List.{List, [], ◌∷◌}
use borrow.Author.Tests.{eq-eqb, ne_eqb, eqb-true}
use lib.ListN.{length}
use lib.Dec.{eqb}
use Rattle.branches.proofs.Branches.{and_left, and_right, cond_true, cond_false}
use Rattle.store.specs.Bytes.{Bytes}
use Rattle.codec.specs.Standing.{At, at_self, at_all}
use Rattle.codec.specs.Codec.{Codec}
use Rattle.codec.specs.Blocks.{same, packed, unpacked, is_state, meaning}

same_self : (xs : List ℕ) → same xs xs ≡ true
unfolding same
same_self [] = refl
same_self (x ∷ xs) = rw (eq-eqb x x refl, same_self xs)

pub same_true : (xs ys : List ℕ) → xs ≡ ys → same xs ys ≡ true
same_true xs ys e = rw e (same_self ys)

pub same_only : (xs ys : List ℕ) → same xs ys ≡ true → xs ≡ ys
unfolding same
same_only [] [] t = refl
same_only [] (y ∷ ys) t = absurd (true≢false (sym t))
same_only (x ∷ xs) [] t = absurd (true≢false (sym t))
same_only (x ∷ xs) (y ∷ ys) t =
    let p : x ≡ y = eqb-true x y (and_left (eqb x y) (same xs ys) t) in
    let q : xs ≡ ys = same_only xs ys (and_right (eqb x y) (same xs ys) t) in
    cc

module _ {S : Type 0} (layout : Codec S) where
  pub other_length : (b : List ℕ) → (length b ≡ layout.len → ⊥) → false ≡ is_state layout b
  unfolding is_state
  other_length b h = rw (ne_eqb (length b) layout.len h)

  -- a block that is a state has the length of one, and is what it is read as
  pub state_length : (b : List ℕ) → is_state layout b ≡ true → length b ≡ layout.len
  unfolding is_state
  state_length b e = eqb-true (length b) layout.len (and_left (eqb (length b) layout.len) _ e)

  pub state_packed : (b : List ℕ) → is_state layout b ≡ true → packed layout (unpacked layout b) ≡ b
  unfolding is_state
  state_packed b e = same_only (packed layout (unpacked layout b)) b (and_right (eqb (length b) layout.len) _ e)

  -- a block whose bytes are right is what it is read as, and of a block that is what it is read as they are right
  pub state_if_right : (b : List ℕ) → length b ≡ layout.len → Bytes b → layout.right b 0 ≡ true → true ≡ is_state layout b
  unfolding is_state packed unpacked
  state_if_right b n h r =
      let e : layout.put (layout.get b 0) ≡ b = at_all b _ (layout.put_get b 0 h r) (layout.put_length (layout.get b 0) ∙ sym n) in
      rw (eq-eqb (length b) layout.len n, same_true (layout.put (layout.get b 0)) b e)

  pub none_if_wrong : (b : List ℕ) → layout.right b 0 ≡ false → false ≡ is_state layout b
  unfolding packed unpacked
  none_if_wrong b h = pick (is_state layout b) refl
    where
      pick : (t : Bool) → is_state layout b ≡ t → false ≡ is_state layout b
      pick true q =
          let again = layout.put (layout.get b 0) in
          let stands : At b 0 again = subst (λ (xs : List ℕ). At xs 0 again) (state_packed b q) (at_self again) in
          absurd (true≢false (sym (layout.put_right b 0 (layout.get b 0) stands) ∙ h))
      pick false q = sym q

  -- what a block means
  module _ (none : S) (b : List ℕ) (t : Bool) (e : t ≡ is_state layout b) where
    pub means : t ≡ true → unpacked layout b ≡ meaning layout none b
    unfolding meaning
    means h = sym (cond_true (is_state layout b) (unpacked layout b) none (sym e ∙ h))

    pub means_none : t ≡ false → none ≡ meaning layout none b
    unfolding meaning
    means_none h = sym (cond_false (is_state layout b) (unpacked layout b) none (sym e ∙ h))
