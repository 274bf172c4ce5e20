-- Numbers, lists and answers that differ, by a test. Assumes nothing.
use Prim.Native.Nat.{ℕ}
use mathlib.Core.Path.{◌≡◌, refl, sym, ap, ◌∙◌}
use mathlib.Core.Bool.{Bool, true, false, ◌&&◌, false≢true}
use mathlib.Core.List.{List, [], ◌∷◌}
use lib.Dec.{eqb}
use borrow.Author.Tests.{eqb-true, eq-eqb}
use Rattle.branches.proofs.Branches.{and_left, and_right}
use Rattle.answers.specs.Answers.{Said, done, none, byte, frame, refused, part, cell, lines}

pub numbers_differ : (a b : ℕ) → eqb a b ≡ false → a ≡ b → ⊥
numbers_differ a b e p = false≢true (sym e ∙ eq-eqb a b p)

abbrev pub alike : List ℕ → List ℕ → Bool
alike [] [] = true
alike [] (b ∷ bs) = false
alike (a ∷ l) [] = false
alike (a ∷ l) (b ∷ bs) = eqb a b && alike l bs

alike_self : (a : List ℕ) → alike a a ≡ true
alike_self [] = refl
alike_self (x ∷ xs) = rw (eq-eqb x x refl) (alike_self xs)

pub alike_same : (a b : List ℕ) → alike a b ≡ true → a ≡ b
alike_same [] [] e = refl
alike_same [] (b ∷ bs) e = absurd (false≢true e)
alike_same (a ∷ l) [] e = absurd (false≢true e)
alike_same (a ∷ l) (b ∷ bs) e =
    λ i. eqb-true a b (and_left (eqb a b) (alike l bs) e) i ∷ alike_same l bs (and_right (eqb a b) (alike l bs) e) i

pub lists_differ : (a b : List ℕ) → alike a b ≡ false → a ≡ b → ⊥
lists_differ a b e p = false≢true (sym e ∙ ap (alike a) (sym p) ∙ alike_self a)

-- an answer as a list of numbers
abbrev pub spelled : Said → List ℕ
spelled done = 0 ∷ []
spelled none = 1 ∷ []
spelled (byte b) = 2 ∷ b ∷ []
spelled (frame k d) = 3 ∷ k ∷ d ∷ []
spelled (refused n) = 4 ∷ n ∷ []
spelled (part xs) = 5 ∷ xs
spelled (cell n) = 6 ∷ n ∷ []
spelled (lines n) = 7 ∷ n ∷ []

pub answers_differ : (a b : Said) → alike (spelled a) (spelled b) ≡ false → a ≡ b → ⊥
answers_differ a b e p = lists_differ (spelled a) (spelled b) e (ap spelled p)
