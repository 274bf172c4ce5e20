-- The laws of the block that are its own: which states are ranged, and that what is no state fits no stores. Those of any block are in codec.
-- Assumes nothing.
use Prim.{tt}
use Prim.Native.Nat.{ℕ, zero, suc, ◌≤◌, ◌<◌}
use mathlib.Core.Path.{◌≡◌, refl, ap}
use mathlib.Core.Bool.{Bool, true, false, ◌&&◌}
use mathlib.Core.List.{List}
use native.Mathlib.Omega.{arith}
use lib.Dec.{leb}
use borrow.Author.Tests.{ne_eqb, leb-true}
use Rattle.branches.proofs.Branches.{and_left, and_right}
use Rattle.codec.proofs.Laws as blocks
use Rattle.store.specs.Ring as ring
use Rattle.bus.specs.Bus as bus
use Rattle.way.specs.Way as way
use Rattle.mailstate.specs.declared.State.{State}
use Rattle.mailstate.specs.Sizes.{address_obeyed, store_obeyed, sizes_obeyed, start_state, loop_in_range, fits}
use Rattle.mailstate.proofs.Fits.{address_obeyed_lem}
use Rattle.mailblock.specs.Packed.{layout}
use Rattle.mailblock.specs.States.{meaning, no_state, fitting_block, Ranged}

-- ---- which states are ranged

infixl 20 ◌&◌
◌&◌ : {A B : Type 0} → A → B → A × B
a & b = (a, b)

-- a range for each row of the table
pub ranged_by : (s : State) → s.tobus.ring.cap < 65536 → s.tobus.ring.oldest < 65536 → s.tobus.ring.len < 65536 →
    s.toloop.ring.cap < 65536 → s.toloop.ring.oldest < 65536 → s.toloop.ring.len < 65536 →
    s.talker.under.frame < 65536 → s.hold.frame < 65536 → s.talker.role.address < 256 → s.talker.role.phase < 256 →
    s.source < 256 → s.response.line < 256 → s.bus.role.address < 256 → s.bus.role.phase < 256 → s.bus.line < 256 → Ranged s
ranged_by s busSize busOldest busLen loopSize loopOldest loopLen frame heldFrame address phase source line busAddress busPhase busLine =
    tt & busSize & busOldest & busLen & loopSize & loopOldest & loopLen
    & frame & heldFrame
    & address & phase & tt & tt & source & line
    & busAddress & busPhase & busLine & tt
    & tt & tt & tt & tt & tt & tt
    & tt & tt
    & tt & tt
    & tt & tt & tt & tt

-- what create gives for sizes and an address that are obeyed
pub start_ranged : (a m n : ℕ) → a < 256 → m < 65536 → n < 65536 → Ranged (start_state a m n)
unfolding start_state way.empty_way
start_ranged a m n p q r =
    ranged_by (start_state a m n) q (omega arith) (omega arith) r (omega arith) (omega arith)
    (omega arith) (omega arith) (omega arith) (omega arith) (omega arith) (omega arith) p (omega arith) (omega arith)

pub obeyed_ranged : (a m n : ℕ) → sizes_obeyed a m n ≡ true → Ranged (start_state a m n)
unfolding sizes_obeyed
obeyed_ranged a m n e =
    let both = and_left (address_obeyed a && store_obeyed m) (store_obeyed n) e in
    let p : m ≤ 32768 = leb-true m 32768 (and_right (leb 1 m) (leb m 32768) (and_right (address_obeyed a) (store_obeyed m) both)) in
    let q : n ≤ 32768 = leb-true n 32768 (and_right (leb 1 n) (leb n 32768) (and_right (address_obeyed a && store_obeyed m) (store_obeyed n) e)) in
    start_ranged a m n (omega (arith, address_obeyed_lem a m n e)) (omega arith) (omega arith)

-- ---- what is no state fits no stores

-- no ring of no places fits
no_places : (m : ℕ) → way.fit_test m (way.empty_way 0) ≡ false
unfolding way.empty_way ring.fit_test
no_places zero = refl
no_places (suc m) = rw (ne_eqb 0 (suc m) (λ z. omega arith))

pub no_state_misfits : (m n : ℕ) → fits no_state m n ≡ false
unfolding fits start_state
no_state_misfits m n =
    ap (λ (t : Bool). ((t && way.fit_test n no_state.toloop) && loop_in_range no_state) && bus.fit_test no_state.bus) (no_places m)

-- a block is a fitting state exactly if what it means fits
pub meaning_fits : (b : List ℕ) (m n : ℕ) → fits (meaning b) m n ≡ fitting_block b m n
meaning_fits b m n = blocks.meaning_fits layout no_state (λ s. fits s m n) (no_state_misfits m n) b
