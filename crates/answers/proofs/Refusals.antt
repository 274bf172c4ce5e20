-- The first refusal that is given decides. Assumes nothing.
use mathlib.Core.Path.{◌≡◌, refl}
use mathlib.Core.Bool.{Bool, true, false, not, false≢true}
use mathlib.Core.List.{List, [], ◌∷◌, ◌++◌}
use Rattle.answers.specs.Refusals.{Check, first_refusal, none_given, FirstDecides}
use Rattle.branches.proofs.Branches.{and_left, and_right}

-- a test that does not hold
off : (t : Bool) → not t ≡ true → t ≡ false
off true e = absurd (false≢true e)
off false e = refl

decides : (xs ys : List Check) (c : Check) → none_given xs ≡ true → c.given ≡ true → first_refusal (xs ++ (c ∷ ys)) ≡ c.number
decides [] ys c n g = rw g
decides (x ∷ xs) ys c n g = rw (off x.given (and_left (not x.given) (none_given xs) n)) (decides xs ys c (and_right (not x.given) (none_given xs) n) g)

nothing : (xs : List Check) → none_given xs ≡ true → first_refusal xs ≡ 0
nothing [] n = refl
nothing (x ∷ xs) n = rw (off x.given (and_left (not x.given) (none_given xs) n)) (nothing xs (and_right (not x.given) (none_given xs) n))

pub first_decides : FirstDecides
first_decides = record { first = decides; none = nothing }
