-- The decision on the oldest bytes as the code has them.
-- Assumes nothing.
use Prim.Native.Nat.{ℕ, zero, suc}
use native.Mathlib.Omega.{arith}
use borrow.Author.Tests.{ne_eqb, le-leb}
use mathlib.Core.Path.{◌≡◌, refl, ap, ◌∙◌}
use mathlib.Core.Bool.{Bool, true, false, cond, ◌&&◌, ◌||◌, not}
use mathlib.Core.List.{List, [], ◌∷◌, map}
use lib.Dec.{eqb, leb}
use lib.ListN.{length, get_or}
use Rattle.reading.specs.declared.Rule.{Rule}
use Rattle.reading.specs.declared.Item.{Item}
use Rattle.reading.specs.declared.Decision.{Decision}
use Rattle.reading.specs.declared.Decision.TheVariants.{Removed, End, Data, Wait}
use Rattle.reading.specs.Received.{Received, a_byte, a_break, item_of, received, received_in}
use Rattle.reading.specs.Steps.{starts_with_pair, is_only_c00, decision}
use Rattle.reading.specs.Firsts.{firsts}

-- a byte, and behind it a break or none
abbrev then : ℕ → Bool → List Received → List Received
then b t l = a_byte b ∷ cond t (a_break ∷ l) l

-- three items are enough
of_three : (r : Rule) (a b c : Item) (xs : List Item) → decision r (received (a ∷ b ∷ c ∷ [])) ≡ decision r (received (a ∷ b ∷ c ∷ xs))
unfolding received
of_three r a b c xs = go a.broken b.broken
  where
    go : (t u : Bool) →
        decision r (then a.byte t (then b.byte u (then c.byte c.broken []))) ≡
        decision r (then a.byte t (then b.byte u (then c.byte c.broken (received xs))))
    go true u = refl
    go false true = refl
    go false false = refl

-- any three that are the oldest cells as far as there are cells decide what all cells do
pub on_oldest : (r : Rule) (xs : List ℕ) (n a b c : ℕ) → length xs ≡ n → a ≡ get_or xs 0 0 → b ≡ get_or xs 1 0 → c ≡ get_or xs 2 0 →
    decision r (received (firsts n (item_of a) (item_of b) (item_of c))) ≡ decision r (received_in xs)
on_oldest r [] n a b c e p q s = rw (← e)
on_oldest r (x ∷ []) n a b c e p q s = rw (← e, p)
on_oldest r (x ∷ y ∷ []) n a b c e p q s = rw (← e, p, q)
on_oldest r (x ∷ y ∷ z ∷ []) n a b c e p q s = rw (← e, p, q, s)
on_oldest r (x ∷ y ∷ z ∷ v ∷ xs) n a b c e p q s = rw (← e, p, q, s) (of_three r (item_of x) (item_of y) (item_of z) (item_of v ∷ map item_of xs))

-- ---- the decision by the code's tests

-- a break behind the first byte: no pair, and nothing to wait for
shut_off : (on p : Bool) (d : Decision) → cond on (cond (p && false) Removed Data) Data ≡ cond (not on || true) Data d
shut_off true true d = refl
shut_off true false d = refl
shut_off false p d = refl

-- none behind it
left_open : (on : Bool) (d : Decision) → cond on d Data ≡ cond (not on || false) Data d
left_open true d = refl
left_open false d = refl

module _ (r : Rule) (a b c : Item) where
  -- the second is C00, and no break follows it
  abbrev begins : Bool → Bool
  begins u = eqb b.byte r.c00 && not u

  abbrev tests : ℕ → Bool → Bool → Decision
  tests n t u =
      cond (eqb n 0) Wait
      (cond (not r.on || t) Data
      (cond (leb 2 n && eqb a.byte r.c00 && eqb b.byte r.c01) Removed
      (cond (eqb n 1 && eqb a.byte r.c00) Wait
      (cond (leb 3 n && begins u && eqb c.byte r.c01) End
      (cond (eqb n 1 || (eqb n 2 && begins u)) Wait
      Data)))))

  one : (t : Bool) → decision r (then a.byte t []) ≡ tests 1 t false
  one true = shut_off r.on (eqb a.byte r.c00) _
  one false = left_open r.on _

  two : (t u : Bool) → decision r (then a.byte t (then b.byte u [])) ≡ tests 2 t u
  two true u = shut_off r.on (eqb a.byte r.c00) _
  two false u = left_open r.on _ ∙ ap (cond (not r.on || false) Data) (go u (eqb b.byte r.c00) refl)
    where
      P : Bool
      P = eqb a.byte r.c00 && eqb b.byte r.c01

      go : (u s : Bool) → eqb b.byte r.c00 ≡ s →
          cond P Removed (cond (starts_with_pair r (then b.byte u [])) End (cond (is_only_c00 r (then b.byte u [])) Wait Data)) ≡
          cond P Removed (cond (begins u) Wait Data)
      go true true e = rw e
      go true false e = rw e
      go false true e = rw e
      go false false e = rw e

  three : (t u v : Bool) (l : List Received) → decision r (then a.byte t (then b.byte u (then c.byte v l))) ≡ tests 3 t u
  three true u v l = shut_off r.on (eqb a.byte r.c00) _
  three false u v l = left_open r.on _ ∙ ap (cond (not r.on || false) Data) (go u (eqb b.byte r.c00) refl)
    where
      P : Bool
      P = eqb a.byte r.c00 && eqb b.byte r.c01

      go : (u s : Bool) → eqb b.byte r.c00 ≡ s →
          cond P Removed (cond (starts_with_pair r (then b.byte u (then c.byte v l))) End
          (cond (is_only_c00 r (then b.byte u (then c.byte v l))) Wait Data)) ≡
          cond P Removed (cond (begins u && eqb c.byte r.c01) End Data)
      go true true e = rw e
      go true false e = rw e
      go false true e = rw e
      go false false e = rw e

  -- the decision on the n oldest
  pub by_tests : (n : ℕ) → decision r (received (firsts n a b c)) ≡ tests n a.broken b.broken
  unfolding received
  by_tests zero = refl
  by_tests (suc zero) = one a.broken
  by_tests (suc (suc zero)) = two a.broken b.broken
  by_tests (suc (suc (suc n))) =
      let m : ℕ = suc (suc (suc n)) in
      three a.broken b.broken c.broken _
      ∙ simp (ne_eqb m 0 (λ e. omega arith), ne_eqb m 1 (λ e. omega arith), ne_eqb m 2 (λ e. omega arith), le-leb 2 m (omega arith), le-leb 3 m (omega arith))
