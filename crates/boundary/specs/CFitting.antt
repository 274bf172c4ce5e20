-- Sizes and refusals, fitting: what create and the other C calls of a product leave fits the same stores
use Rattle.std.specs.Prelude.{ℕ, ◌≡◌, true, length}
use Rattle.answers.specs.Answers.{done}
use Rattle.answers.specs.Word.{word}
use Rattle.boundary.specs.Product.{Product}
use Rattle.boundary.specs.CCalls.{Lent, fitting, c_step}
use Rattle.boundary.specs.CRuns.{Lendable}

-- the same stores: no C call makes a buffer longer or shorter
pub record SameLengths (before after : Lent) : Type 0 where
  pub block : length after.block ≡ length before.block
  pub first : length after.first ≡ length before.first
  pub second : length after.second ≡ length before.second

module _ (P : Product) where
  -- every C call keeps a block that fits, reachable or not
  abbrev pub BlockKeepsFit : Type 0
  BlockKeepsFit = (c : P.Call) (l : Lent) → Lendable P l → fitting P l ≡ true → fitting P (c_step P c l).lent ≡ true

  -- a create that answers that it is done leaves a block that fits, whatever stood there
  abbrev pub CreateFits : Type 0
  CreateFits = (m : ℕ) (l : Lent) → (c_step P (P.create m) l).word ≡ word done → fitting P (c_step P (P.create m) l).lent ≡ true

  -- of every C call
  abbrev pub LengthsStay : Type 0
  LengthsStay = (c : P.Call) (l : Lent) → SameLengths l (c_step P c l).lent
