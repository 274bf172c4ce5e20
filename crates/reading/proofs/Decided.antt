-- What a decision rests on: as many bytes as it takes, no break among them, and nothing that comes after.
-- Assumes nothing.
use Prim.Native.Nat.{ℕ, ◌+◌, ◌≤◌}
use native.Mathlib.Omega.{arith}
use mathlib.Core.Path.{◌≡◌, refl, sym, ◌∙◌}
use mathlib.Core.Bool.{Bool, true, false, cond, ◌&&◌, ◌||◌, and-false, false≢true}
use mathlib.Core.Logic.{◌⊎◌, inl, inr}
use mathlib.Core.List.{List, [], ◌∷◌, ◌++◌}
use lib.ListN.{length, drop}
use Rattle.branches.proofs.Branches.{by_cond}
use Rattle.reading.specs.declared.Rule.{Rule}
use Rattle.reading.specs.declared.Decision.{Decision}
use Rattle.reading.specs.declared.Decision.TheVariants.{Removed, End, Data, Wait}
use Rattle.reading.specs.Received.{Received, a_byte, a_break, bytes_in}
use Rattle.reading.specs.Steps.{is_byte, starts_with_pair, is_only_c00, is_nothing, decision, takes}

-- a decision takes bytes, and as many as it says
pub takes_bytes : (r : Rule) (b : ℕ) (xs : List Received) →
    takes (decision r (a_byte b ∷ xs)) + bytes_in (drop (takes (decision r (a_byte b ∷ xs))) (a_byte b ∷ xs)) ≡ bytes_in (a_byte b ∷ xs)
unfolding bytes_in
takes_bytes r b xs =
    by_cond Takes r.on _ _
    (λ _. by_cond Takes (starts_with_pair r (a_byte b ∷ xs)) _ _ (two xs)
    (λ _. by_cond Takes (is_only_c00 r (a_byte b ∷ xs)) _ _ (λ _. omega arith)
    (λ _. by_cond Takes (starts_with_pair r xs) _ _ (three xs)
    (λ _. by_cond Takes (is_nothing xs || is_only_c00 r xs) _ _ (λ _. omega arith) (λ _. omega arith)))))
    (λ _. omega arith)
  where
    Takes : Decision → Type 0
    Takes d = takes d + bytes_in (drop (takes d) (a_byte b ∷ xs)) ≡ bytes_in (a_byte b ∷ xs)

    two : (ys : List Received) → starts_with_pair r (a_byte b ∷ ys) ≡ true → 2 + bytes_in (drop 2 (a_byte b ∷ ys)) ≡ bytes_in (a_byte b ∷ ys)
    two [] e = absurd (false≢true e)
    two (a_byte y ∷ ys) e = omega arith
    two (a_break ∷ ys) e = absurd (false≢true (sym (and-false (is_byte r.c00 (a_byte b))) ∙ e))

    three : (ys : List Received) → starts_with_pair r ys ≡ true → 3 + bytes_in (drop 3 (a_byte b ∷ ys)) ≡ bytes_in (a_byte b ∷ ys)
    three [] e = absurd (false≢true e)
    three (y ∷ []) e = absurd (false≢true e)
    three (a_byte y ∷ a_byte z ∷ ys) e = omega arith
    three (a_byte y ∷ a_break ∷ ys) e = absurd (false≢true (sym (and-false (is_byte r.c00 (a_byte y))) ∙ e))
    three (a_break ∷ z ∷ ys) e = absurd (false≢true e)

-- as many are there
pub fewer_bytes : (xs : List Received) → bytes_in xs ≤ length xs
unfolding bytes_in
fewer_bytes [] = omega arith
fewer_bytes (a_byte b ∷ xs) = omega (arith, fewer_bytes xs)
fewer_bytes (a_break ∷ xs) = omega (arith, fewer_bytes xs)

pub least : (r : Rule) (b : ℕ) (xs : List Received) → takes (decision r (a_byte b ∷ xs)) ≤ length (a_byte b ∷ xs)
least r b xs = omega (arith, takes_bytes r b xs, fewer_bytes (a_byte b ∷ xs))

-- what is decided stays decided, whatever comes after
pub settled : (r : Rule) (xs ys : List Received) → (decision r xs ≡ Wait) ⊎ (decision r (xs ++ ys) ≡ decision r xs)
settled r [] ys = inl refl
settled r (a ∷ []) ys = alone r.on (is_only_c00 r (a ∷ [])) _
  where
    alone : (on last : Bool) (d : Decision) → (cond on (cond last Wait Wait) Data ≡ Wait) ⊎ (cond on d Data ≡ cond on (cond last Wait Wait) Data)
    alone true true d = inl refl
    alone true false d = inl refl
    alone false last d = inr refl
settled r (a ∷ b ∷ []) [] = inr refl
settled r (a ∷ b ∷ []) (y ∷ ys) = two r.on (starts_with_pair r (a ∷ b ∷ [])) (is_only_c00 r (b ∷ [])) (is_byte r.c01 y)
  where
    two : (on pair last next : Bool) →
        (cond on (cond pair Removed (cond last Wait Data)) Data ≡ Wait) ⊎
        (cond on (cond pair Removed (cond (last && next) End Data)) Data ≡ cond on (cond pair Removed (cond last Wait Data)) Data)
    two true true last next = inr refl
    two true false true next = inl refl
    two true false false next = inr refl
    two false pair last next = inr refl
settled r (a ∷ b ∷ c ∷ xs) ys = inr refl
