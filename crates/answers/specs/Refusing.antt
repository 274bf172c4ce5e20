-- When a call refuses.
use Rattle.std.specs.Prelude.{ℕ, ◌≡◌, true, false}
use Rattle.answers.specs.Answers.{Said, refused, is_refusal}

-- a call on x answered a and left y, where n is the number of the first of its checks that is given, 0 where none is: x and y are worlds,
-- or the buffers lent to a C function
pub record Refuses {X : Type 0} (a : Said) (y : X) (n : ℕ) (x : X) : Type 0 where
  -- Sizes and refusals, the table: given exactly then
  pub when : (m : ℕ) → a ≡ refused m → n ≡ m
  pub given : (n ≡ 0 → ⊥) → a ≡ refused n
  -- and no refusal, nor one with the number 0, where none of its checks is given
  pub accepts : n ≡ 0 → is_refusal a ≡ false
  -- Sizes and refusals, below the table: the number alone, and all stays
  pub leaves : is_refusal a ≡ true → y ≡ x
