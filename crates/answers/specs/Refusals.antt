-- Refusals: one explicit ordered list of tests for each call.
use Rattle.std.specs.Prelude.{ℕ, ◌≡◌, Bool, true, cond, ◌&&◌, not, List, [], ◌∷◌, ◌++◌, ltb}

-- a refusal's number, and whether it is given
pub record Check : Type 0 where
  pub number : ℕ
  pub given : Bool

abbrev pub check : ℕ → Bool → Check
check n t = record { number = n; given = t }

-- Sizes and refusals, below the table: the number of the first that is given, 0 where none is
abbrev pub first_refusal : List Check → ℕ
first_refusal [] = 0
first_refusal (c ∷ cs) = cond c.given c.number (first_refusal cs)

-- ---- the order

-- none of these is given
abbrev pub none_given : List Check → Bool
none_given [] = true
none_given (c ∷ cs) = not c.given && none_given cs

-- every number is above n and above the numbers before it
abbrev pub rising : ℕ → List Check → Bool
rising n [] = true
rising n (c ∷ cs) = ltb n c.number && rising c.number cs

-- a refusal is given if it holds and none before it does, whatever stands after it; and 0 says that none is given
pub record FirstDecides : Type 0 where
  pub first : (xs ys : List Check) (c : Check) → none_given xs ≡ true → c.given ≡ true → first_refusal (xs ++ (c ∷ ys)) ≡ c.number
  pub none : (xs : List Check) → none_given xs ≡ true → first_refusal xs ≡ 0
