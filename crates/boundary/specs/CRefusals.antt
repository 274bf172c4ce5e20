-- The table of refusals, of the C calls of a product.
use Rattle.std.specs.Prelude.{ℕ, ◌||◌, not, List, [], ◌∷◌, length, eqb}
use Rattle.answers.specs.Refusals.{Check, check, first_refusal}
use Rattle.answers.specs.Refusing.{Refuses}
use Rattle.boundary.specs.Product.{Product, Kind, creating, showing, calling}
use Rattle.boundary.specs.CCalls.{Lent, held_in, fitting, c_step}
use Rattle.boundary.specs.Numbers.{c_answer}
use Rattle.boundary.specs.CRuns.{Lendable}

module _ (P : Product) where
  -- Sizes and refusals, the table, create: a size, or the length of the block
  abbrev pub cannot_create : ℕ → Lent → Check
  cannot_create m l = check 1 (not (P.obeyed m (length l.first) (length l.second)) || not (eqb (length l.block) P.layout.len))

  -- Sizes and refusals, the table, any other call but showing: a state that does not fit, and a block that is none
  abbrev pub misfit_block : Lent → Check
  misfit_block l = check 2 (not (fitting P l))

  -- the table: after the first check those of the product's call, in the order of their numbers; showing has no number
  unfoldable pub c_checks : Kind P.Side P.OnState → Lent → List Check
  c_checks (creating m) l = cannot_create m l ∷ []
  c_checks (showing side) l = []
  c_checks (calling c) l = misfit_block l ∷ P.checks_on c (held_in P l)

  -- Sizes and refusals, the table: every C call, on any buffers of bytes and right numbers, a block of any length among them, answers by its
  -- number the refusal of the first of its checks that is given, and only then a refusal
  abbrev pub RefusedExactlyInC : Type 0
  RefusedExactlyInC =
      (c : P.Call) (l : Lent) → Lendable P l → Refuses (c_answer P c l) (c_step P c l).lent (first_refusal (c_checks (P.kind c) l)) l
