-- What keeps registers fitting. Assumes nothing.
use Prim.Native.Nat.{ℕ, ◌<◌}
use mathlib.Core.Path.{◌≡◌, refl}
use mathlib.Core.Bool.{Bool, true, false, cond, ◌&&◌, not}
use mathlib.Core.List.{List, [], ◌∷◌}
use lib.Dec.{eqb, ltb}
use borrow.Author.Tests.{eqb-true, eqb-false, not-true}
use Rattle.answers.specs.Refusals.{first_refusal}
use Rattle.branches.proofs.Branches.{and_left, and_right}
use Rattle.registers.specs.declared.Registers.{Registers}
use Rattle.registers.specs.Table.{character, table, row_in, has_row, carried_of, start_of, start_registers}
use Rattle.registers.specs.Bits.{control_most, character_most, too_large, bit_not_carried, in_range}
use Rattle.registers.specs.Meanings.{go, stop}
use Rattle.registers.specs.Writing.{written, go_is_stop, write_checks}
use Rattle.registers.specs.RegistersFit.{Held, values, value_in, value_of, all_in_range, registers_fit}
use Rattle.registers.proofs.Rows.{test_row}
use Rattle.registers.proofs.Refusals.{accepted, small_byte}
use Rattle.registers.proofs.Writes.{replaced, values_written, written_same}

pub fit_start : registers_fit start_registers ≡ true
unfolding table row_in carried_of start_of start_registers too_large bit_not_carried in_range values all_in_range registers_fit
fit_start = refl

-- "go and stop differ"
pub fit_differ : (g : Registers) → registers_fit g ≡ true → go g ≡ stop g → ⊥
unfolding registers_fit
fit_differ g e = eqb-false (go g) (stop g) (not-true _ (and_right (all_in_range (values g)) _ e))

-- one value replaced by one in its range
replaced_fit : (hs : List Held) (n v : ℕ) → in_range (carried_of n) v ≡ true → all_in_range hs ≡ true → all_in_range (replaced n v hs) ≡ true
unfolding all_in_range replaced
replaced_fit [] n v i e = refl
replaced_fit (h ∷ hs) n v i e =
    rw (pick (eqb n h.number) refl) (replaced_fit hs n v i (and_right (in_range (carried_of h.number) h.value) _ e))
  where
    pick : (t : Bool) → eqb n h.number ≡ t → in_range (carried_of h.number) (cond t v h.value) ≡ true
    pick true q = rw (eqb-true n h.number q) at i
    pick false q = and_left _ (all_in_range hs) e

-- an accepted write of fitting registers fits
pub fit_written : (g : Registers) (n v : ℕ) → registers_fit g ≡ true → first_refusal (write_checks g n v) ≡ 0 → registers_fit (written g n v) ≡ true
unfolding registers_fit in_range
fit_written g n v f e =
    let a = accepted g n v e in
    let i : in_range (carried_of n) v ≡ true = rw (a.small, a.bits) in
    rw (a.differ, values_written g n v, replaced_fit (values g) n v i (and_left _ _ f))

-- ---- what fitting says of each register

zero_range : (k : ℕ) → in_range k 0 ≡ true
unfolding too_large bit_not_carried in_range
zero_range k = go (eqb k character)
  where
    go : (t : Bool) → (not (cond t (ltb character_most 0) (ltb control_most 0)) && not (not t && false)) ≡ true
    go true = refl
    go false = refl

range_in : (hs : List Held) → all_in_range hs ≡ true → (k : ℕ) → in_range (carried_of k) (value_in hs k) ≡ true
unfolding all_in_range value_in
range_in [] e k = zero_range (carried_of k)
range_in (h ∷ hs) e k = pick (eqb k h.number) refl (range_in hs (and_right (in_range (carried_of h.number) h.value) _ e) k)
  where
    pick : (t : Bool) → eqb k h.number ≡ t → in_range (carried_of k) (value_in hs k) ≡ true →
        in_range (carried_of k) (cond t h.value (value_in hs k)) ≡ true
    pick true q f = rw (eqb-true k h.number q) (and_left _ (all_in_range hs) e)
    pick false q f = f

-- the value of each number is in the range that the table gives it
pub fit_range : (g : Registers) → registers_fit g ≡ true → (k : ℕ) → in_range (carried_of k) (value_of g k) ≡ true
unfolding registers_fit
fit_range g e k = range_in (values g) (and_left _ _ e) k

pub fit_byte : (g : Registers) → registers_fit g ≡ true → (k : ℕ) → value_of g k < 256
unfolding in_range
fit_byte g e k = small_byte (carried_of k) (value_of g k) (not-true _ (and_left _ _ (fit_range g e k)))

-- writing a register's own present value is accepted
pub own_accepted : (g : Registers) → registers_fit g ≡ true → (n : ℕ) → has_row table n ≡ true → first_refusal (write_checks g n (value_of g n)) ≡ 0
unfolding write_checks registers_fit in_range
own_accepted g f n e =
    let i = fit_range g f n in
    let small : too_large (carried_of n) (value_of g n) ≡ false = not-true _ (and_left _ _ i) in
    let bits : bit_not_carried (carried_of n) (value_of g n) ≡ false = not-true _ (and_right (not (too_large (carried_of n) (value_of g n))) _ i) in
    let differ : go_is_stop g ≡ false = not-true _ (and_right (all_in_range (values g)) _ f) in
    rw (test_row n, e, small, bits, written_same g n, differ)
