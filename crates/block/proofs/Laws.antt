-- The laws of the block that are its own: which states are ranged, and that what is no state fits no stores. Those of any block are in codec.
-- Assumes nothing.
use Prim.{tt}
use Prim.Native.Nat.{ℕ, ◌<◌}
use mathlib.Core.Path.{◌≡◌, refl, sym}
use mathlib.Core.Bool.{Bool, true, false, true≢false}
use mathlib.Core.List.{List}
use native.Mathlib.Omega.{arith}
use lib.ListN.{length}
use Rattle.codec.proofs.Laws as blocks
use Rattle.registers.specs.RegistersFit.{values, value_in, value_of}
use Rattle.registers.specs.Table.{start_registers}
use Rattle.registers.proofs.Fits.{fit_byte, fit_start}
use Rattle.talker.specs.TalkerFit as talker-fit
use Rattle.talker.proofs.FitLaws.{fit_true}
use Rattle.state.specs.declared.State.{State}
use Rattle.state.specs.Sizes.{sizes_obeyed, start_state, fits, RxFits, TxFits}
use Rattle.state.proofs.Fits.{Obeyed, sizes_hold, Tests, tests, rx_fits, tx_fits}
use Rattle.block.specs.Packed.{layout}
use Rattle.block.specs.States.{meaning, no_state, fitting_block, CountsRanged, Ranged}

-- ---- a state that fits is ranged

infixl 20 ◌&◌
◌&◌ : {A B : Type 0} → A → B → A × B
a & b = (a, b)

-- a range for each row of the table
ranged_by : (s : State) → s.rx.cap < 65536 → s.tx.cap < 65536 → s.margin < 65536 → ((n : ℕ) → value_of s.regs n < 256) →
    s.talker.role.address < 256 → s.talker.role.phase < 256 → s.talker.under.frame < 65536 →
    s.rx.oldest < 65536 → s.rx.len < 65536 → s.tx.oldest < 65536 → s.tx.len < 65536 → CountsRanged s.counts → Ranged s
unfolding values value_in
ranged_by s rx tx margin g address phase frame rxOldest rxLen txOldest txLen k =
    tt & margin
    & rx & rxOldest & rxLen & tx & txOldest & txLen
    & k.stored & k.lost & k.sent
    & address & phase & tt
    & frame & tt
    & g 0 & g 1 & g 2 & g 10 & g 11 & g 16 & g 17 & g 18 & g 19 & g 20 & g 21
    & tt & tt & tt
    & tt & tt & tt & tt & tt & tt & tt
    & tt & tt

pub counts_ranged : (s : State) → Ranged s → CountsRanged s.counts
counts_ranged s h = record { stored = omega arith; lost = omega arith; sent = omega arith }

-- the counts of a state are in 32 bits by the type of the code's fields, every other number of a state that fits is small
pub fits_ranged : (s : State) (rx tx : List ℕ) → fits s (length rx) (length tx) ≡ true → CountsRanged s.counts → Ranged s
fits_ranged s rx tx e h =
    let t : Tests s (length rx) (length tx) = tests s (length rx) (length tx) e in
    let r : RxFits s rx = rx_fits s rx tx e in
    let x : TxFits s tx = tx_fits s rx tx e in
    let o : talker-fit.Fit s.talker = fit_true s.talker t.talker in
    ranged_by s (omega arith) (omega arith) (omega arith) (fit_byte s.regs t.regs)
    (omega arith) (omega arith) (omega arith)
    (omega arith) (omega arith) (omega arith) (omega arith) h

-- what create gives for sizes that are obeyed
pub start_ranged : (m rx tx : ℕ) → m < 65536 → rx < 65536 → tx < 65536 → Ranged (start_state m rx tx)
unfolding start_state
start_ranged m rx tx a b c =
    ranged_by (start_state m rx tx) b c a (fit_byte start_registers fit_start)
    (omega arith) (omega arith) (omega arith)
    (omega arith) (omega arith) (omega arith) (omega arith) (record { stored = omega arith; lost = omega arith; sent = omega arith })

pub obeyed_ranged : (m rx tx : ℕ) → sizes_obeyed m rx tx ≡ true → Ranged (start_state m rx tx)
obeyed_ranged m rx tx e =
    let o : Obeyed m rx tx = sizes_hold m rx tx e in
    start_ranged m rx tx (omega arith) (omega arith) (omega arith)

-- ---- what is no state fits no stores

pub no_state_misfits : (rx tx : ℕ) → fits no_state rx tx ≡ false
unfolding fits sizes_obeyed start_state
no_state_misfits rx tx = pick (fits no_state rx tx) refl
  where
    pick : (t : Bool) → fits no_state rx tx ≡ t → fits no_state rx tx ≡ false
    pick true e = absurd (true≢false (sym (tests no_state rx tx e).sizes))
    pick false e = e

-- a block is a fitting state exactly if what it means fits
pub meaning_fits : (b : List ℕ) (rx tx : ℕ) → fits (meaning b) rx tx ≡ fitting_block b rx tx
meaning_fits b rx tx = blocks.meaning_fits layout no_state (λ s. fits s rx tx) (no_state_misfits rx tx) b
