-- The value of every answer fits its 16 bits of the number, and so the number tells the answer. Assumes nothing.
use Prim.Native.Nat.{ℕ, ◌<◌}
use native.Mathlib.Omega.{arith}
use mathlib.Core.Path.{◌≡◌}
use mathlib.Core.Bool.{◌||◌}
use mathlib.Core.List.{List}
use lib.Dec.{eqb}
use borrow.Author.Tests.{ltb-false}
use Rattle.answers.specs.Refusals.{first_refusal}
use Rattle.branches.proofs.Branches.{by_cond}
use Rattle.frame.specs.Frame.{control_of, data_of}
use Rattle.registers.specs.Writing.{write_checks}
use Rattle.store.specs.Ring.{Fit}
use Rattle.state.specs.declared.State.{State}
use Rattle.answers.specs.declared.Answer.{Answer}
use Rattle.answers.specs.declared.Answer.TheVariants as answer
use Rattle.answers.specs.Answers.{Said, said, byte}
use Rattle.state.proofs.Fits.{tx_fits}
use Rattle.line.specs.HoldingOff.{owed, next_out, out_answer}
use Rattle.loopside.specs.Frames.{frame_taken}
use Rattle.block.specs.States.{Ranged}
use Rattle.store.specs.Bytes.{Bytes}
use Rattle.bridge.specs.Calls.{OnState, reset, write, line_byte, line_break, key, ask_line_byte, take_line_byte, loop_frame, Call, create}
use Rattle.bridge.specs.Calls.{show, on, World, Did, checks_on, checks, outcome, not_refused, step}
use Rattle.laws.proofs.Refusing.{by_refusal, fitting, frame_fitting}
use Rattle.laws.proofs.Ways.{way}
use Rattle.runs.proofs.ElevenBits.{SmallFrame, frame_small}
use Rattle.answers.specs.Word.{word}
use Rattle.boundary.specs.Numbers.{answer_of}
use Rattle.boundary.proofs.Stored.{held_below}
use Rattle.boundary.proofs.Words as words

-- ---- answers of 16 bits

abbrev pub Small : Answer → Type 0
Small answer.Done = Unit {0}
Small answer.Nothing = Unit {0}
Small (answer.Byte b) = b < 65536
Small (answer.Frame f) = f < 65536
Small (answer.Cell n) = ⊥
Small (answer.Lines n) = ⊥

abbrev pub Tells : Said → Type 0
Tells a = answer_of byte (word a) ≡ a

small_tells : (a : Answer) → Small a → Tells (said a)
unfolding said
small_tells answer.Done h = words.done_told byte
small_tells answer.Nothing h = words.none_told byte
small_tells (answer.Byte b) h = words.byte_told b h
small_tells (answer.Frame f) h = words.frame_told byte (control_of f) (data_of f) (omega arith) (omega arith)
small_tells (answer.Cell n) h = absurd h
small_tells (answer.Lines n) h = absurd h

-- ---- frames

-- a frame of 11 bits is one of 16
frame_told : (a : Answer) → SmallFrame a → Small a
frame_told (answer.Frame f) h = omega arith
frame_told answer.Done h = absurd h
frame_told answer.Nothing h = absurd h
frame_told (answer.Byte b) h = absurd h
frame_told (answer.Cell n) h = absurd h
frame_told (answer.Lines n) h = absurd h

-- ---- line bytes

next_small : (s : State) (tx : List ℕ) → Ranged s → Fit tx s.tx → Bytes tx → Small (out_answer (next_out s tx))
unfolding next_out out_answer
next_small s tx r fit b =
    by_cond (λ o. Small (out_answer o)) (owed s.line) _ _
    (λ e. by_cond (λ (n : ℕ). n < 65536) s.line.holding _ _ (λ e. omega arith) (λ e. omega arith))
    (λ e. by_cond (λ o. Small (out_answer o)) (s.line.forbidden || eqb s.tx.len 0) _ _
    (λ e. tt)
    (λ e. omega (arith, held_below 256 tx s.tx fit b 0)))

-- ---- every call

-- a refusal is one of the table's numbers
small_on : (c : OnState) (w : World) → words.SmallNumbers (checks_on c w)
unfolding checks_on write_checks
small_on reset w = tt
small_on (write n v) w = (omega arith, (omega arith, (omega arith, (omega arith, (omega arith, tt)))))
small_on (line_byte b) w = tt
small_on line_break w = tt
small_on key w = tt
small_on ask_line_byte w = tt
small_on (take_line_byte b) w = (omega arith, tt)
small_on (loop_frame f) w = (omega arith, (omega arith, tt))

small_numbers : (c : Call) (w : World) → words.SmallNumbers (checks c w)
unfolding checks
small_numbers (create m) w = (omega arith, tt)
small_numbers (show side) w = tt
small_numbers (on c) w = (omega arith, small_on c w)

-- a call that has a number tells its answer, where what it answers if it is not refused is small
pub told_or : (c : Call) (w : World) → (first_refusal (checks c w) ≡ 0 → Tells (not_refused c w).said) → Tells (step c w).said
told_or c w h =
    by_refusal (λ (d : Did). Tells d.said) c w h (λ _. words.refusal_told byte (first_refusal (checks c w)) (words.first_small (checks c w) (small_numbers c w)))

pub create_told : (m : ℕ) (w : World) → Tells (not_refused (create m) w).said
unfolding not_refused
create_told m w = small_tells answer.Done tt

-- what a call on a state answers is small
pub on_told : (c : OnState) (w : World) → Ranged w.state → Bytes w.tx → first_refusal (checks (on c) w) ≡ 0 →
    Tells (not_refused (on c) w).said
unfolding not_refused outcome
on_told c w r k e = small_tells (outcome c w).answer (small c e)
  where
    small : (c : OnState) → first_refusal (checks (on c) w) ≡ 0 → Small (outcome c w).answer
    small reset e = tt
    small (write n v) e = tt
    small (line_byte x) e = tt
    small line_break e = tt
    small key e = tt
    small ask_line_byte e = next_small w.state w.tx r (tx_fits w.state w.rx w.tx (fitting ask_line_byte w e).0).ring k
    small (take_line_byte b) e = tt
    small (loop_frame f) e =
        let x = frame_fitting f w e in
        frame_told (frame_taken w.state w.rx f).answer
        (frame_small w.state w.rx f (omega (arith, ltb-false 2047 f x.1.0))
        (frame_taken w.state w.rx f) (way w.state w.rx f))
