-- The refusals of a register write: rules of the table, and what an accepted write passed. Assumes nothing.
use Prim.Native.Nat.{ℕ, ◌<◌, ◌%◌}
use native.Mathlib.Omega.{arith}
use mathlib.Core.Path.{◌≡◌, refl}
use mathlib.Core.Bool.{Bool, true, false, cond}
use mathlib.Core.List.{[], ◌∷◌, Memᴰ}
use lib.Dec.{eqb, ltb, lit<}
use borrow.Author.Tests.{ne_eqb, ltb-false}
use Rattle.answers.specs.Refusals.{check, first_refusal}
use Rattle.registers.specs.declared.Registers.{Registers}
use Rattle.registers.specs.Table.{nothing, character, Row, table, has_row, carried_of}
use Rattle.registers.specs.Bits.{control_most, character_most, too_large, bit_not_carried}
use Rattle.registers.specs.Writing.{written, go_is_stop, write_checks}
use Rattle.registers.proofs.Rows.{row_carried, row_carries, none_carried}

-- ---- what an accepted write passed

pub record Accepted (g : Registers) (n v : ℕ) : Type 0 where
  pub carried : eqb (carried_of n) nothing ≡ false
  pub small : too_large (carried_of n) v ≡ false
  pub bits : bit_not_carried (carried_of n) v ≡ false
  pub differ : go_is_stop (written g n v) ≡ false

not_given : (t : Bool) (k x : ℕ) → 0 < k → cond t k x ≡ 0 → (t ≡ false) × (x ≡ 0)
not_given true k x h e = absurd (omega arith)
not_given false k x h e = (refl, e)

pub accepted : (g : Registers) (n v : ℕ) → first_refusal (write_checks g n v) ≡ 0 → Accepted g n v
unfolding write_checks
accepted g n v e =
    let five = not_given _ 5 _ (lit< tt) e in
    let six = not_given _ 6 _ (lit< tt) five.1 in
    let seven = not_given _ 7 _ (lit< tt) six.1 in
    let eight = not_given _ 8 _ (lit< tt) seven.1 in
    record { carried = five.0; small = six.0; bits = seven.0; differ = eight.0 }

-- a value that is not too large is a byte
pub small_byte : (k v : ℕ) → too_large k v ≡ false → v < 256
unfolding too_large
small_byte k v e = go (eqb k character) e
  where
    go : (t : Bool) → cond t (ltb character_most v) (ltb control_most v) ≡ false → v < 256
    go true e' = omega (arith, ltb-false character_most v e')
    go false e' = omega (arith, ltb-false control_most v e')

pub accepted_byte : (g : Registers) (n v : ℕ) → first_refusal (write_checks g n v) ≡ 0 → v < 256
accepted_byte g n v e = small_byte (carried_of n) v (accepted g n v e).small

-- what is stored of it is all of it
pub accepted_whole : (g : Registers) (n v : ℕ) → first_refusal (write_checks g n v) ≡ 0 → v % 256 ≡ v
accepted_whole g n v e = let h = accepted_byte g n v e in omega arith

pub accepted_written : (g w : Registers) (n v : ℕ) → first_refusal (write_checks g n v) ≡ 0 → w ≡ written g n (v % 256) → w ≡ written g n v
accepted_written g w n v e is = rw (accepted_whole g n v e) at is

-- ---- the rules over the table

-- a number with a row is never refused 5, and 6 and 7 go by what the row says
pub row_refusal : (g : Registers) (r : Row) → Memᴰ r table → (v : ℕ) →
    first_refusal (write_checks g r.number v)
    ≡ first_refusal
    (check 6 (too_large r.carries v)
    ∷ check 7 (bit_not_carried r.carries v)
    ∷ check 8 (go_is_stop (written g r.number v))
    ∷ [])
unfolding write_checks
row_refusal g r m v = let h = row_carries r m in rw (row_carried r m, ne_eqb r.carries 0 (λ e. omega arith))

-- one without a row is refused 5 whatever the value
pub no_row_refusal : (g : Registers) (n : ℕ) → has_row table n ≡ false → (v : ℕ) → first_refusal (write_checks g n v) ≡ 5
unfolding write_checks
no_row_refusal g n e v = rw (none_carried n e)
