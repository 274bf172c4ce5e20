-- The room that was told is there: no more bytes than that, and none is lost. Assumes nothing.
use Prim.Native.Nat.{ℕ, ◌+◌, ◌-◌, ◌≤◌}
use native.Mathlib.Omega.{arith}
use mathlib.Core.Path.{◌≡◌, refl, sym, ◌∙◌}
use mathlib.Core.Bool.{true, false≢true}
use mathlib.Core.List.{List, [], ◌∷◌, ◌++◌}
use lib.ListN.{length, length-append}
use Rattle.machine.specs.Machine as machine
use Rattle.machine.specs.Machine.{Obeys}
use Rattle.machine.specs.Course as course
use Rattle.store.specs.declared.Ring.{Ring}
use Rattle.store.specs.Ring.{room}
use Rattle.store.proofs.Laws.{ring_len, put_cap, put_size}
use Rattle.state.proofs.Fits.{rx_fits}
use Rattle.state.specs.Sizes.{start_state}
use Rattle.line.specs.HoldingOff.{stored_with, resumed}
use Rattle.loopside.specs.Sends.{rule_of, removed_state}
use Rattle.bridge.specs.Calls.{reset, write, line_byte, line_break, key, ask_line_byte, take_line_byte, loop_frame, Call, create, show, on, World, room_of, step}
use Rattle.laws.specs.Bridges.{telling}
use Rattle.laws.specs.Observers.{taken, arrived, lost}
use Rattle.laws.specs.Rooms.{of_said, RoomHolds}
use Rattle.laws.proofs.Fitting.{break_size, keeps_fit}
use Rattle.laws.proofs.Refusing.{taken_fits}
use Rattle.laws.proofs.Rooms.{told_after}
use Rattle.runs.proofs.Shapes.{Seen, seen, Core, core, Fits, Shape, is_still, is_begun}
use Rattle.runs.proofs.Shapes.{is_written, is_cleared, is_stored, is_lost, is_broken, is_sent, is_none, is_left, is_handed}
use Rattle.runs.proofs.View.{view}
use Rattle.runs.proofs.Sends.{sent_less, sent_cap}
use Rattle.runs.proofs.Steps.{answer, after}

-- n more bytes go into a ring, which has as many places as the store
pub record Free (n : ℕ) (r : Ring) (s : List ℕ) : Type 0 where
  pub cap : r.cap ≡ length s
  pub room : n ≤ room r

-- after a call at most n of whose bytes arrive, none is lost and the rest of n has room
record Goes (n : ℕ) (x : Seen) (r : Ring) (rx : List ℕ) : Type 0 where
  none : x.lost ≡ []
  free : Free (n - length x.arrived) r rx

-- where no byte arrives
pub none_came : (n : ℕ) (r : Ring) (s : List ℕ) → Free n r s → Free (n - 0) r s
none_came n r s f = record { cap = f.cap; room = omega (arith, f.room) }

-- what a send leaves has no less room
sent_free : (n : ℕ) (w : World) → Fits w → Free n w.state.rx w.rx → Free n (removed_state w.state w.rx).rx w.rx
unfolding removed_state resumed
sent_free n w F h =
    let fit = (rx_fits w.state w.rx w.tx F).ring in
    let less = sent_less (rule_of w.state.regs) w.rx w.state.rx fit in
    let cap = sent_cap (rule_of w.state.regs) w.rx w.state.rx fit in
    record { cap = cap ∙ h.cap; room = omega (arith, less, cap, h.room) }

goes : (n : ℕ) (w : World) (x : Seen) (h : Core) (rx tx : List ℕ) → Shape w x h rx tx → Free n w.state.rx w.rx → length x.arrived ≤ n →
    Goes n x h.rx rx
unfolding stored_with start_state removed_state resumed
goes n w x h rx tx is_still f a = record { none = refl; free = none_came n _ _ f }
goes n w x h rx tx (is_begun m) f a = record { none = refl; free = record { cap = refl; room = omega (arith, f.cap, f.room) } }
goes n w x h rx tx (is_written g t u) f a = record { none = refl; free = none_came n _ _ f }
goes n w x h rx tx is_cleared f a = record { none = refl; free = record { cap = f.cap; room = omega (arith, f.room) } }
goes n w x h rx tx (is_stored b F l) f a =
    record {
      none = refl;
      free =
          record {
            cap = put_cap w.state.rx ∙ (f.cap ∙ sym (put_size w.rx w.state.rx b));
            room = omega (arith, ring_len w.state.rx l, put_cap w.state.rx, f.room);
          };
    }
goes n w x h rx tx (is_lost b l) f a = absurd (omega (arith, f.room))
goes n w x h rx tx (is_broken F) f a =
    record { none = refl; free = record { cap = f.cap ∙ sym (break_size w.state w.rx); room = omega (arith, f.room) } }
goes n w x h rx tx (is_sent k r F e) f a = record { none = refl; free = none_came n _ _ (sent_free n w F f) }
goes n w x h rx tx (is_none r F e) f a = record { none = refl; free = none_came n _ _ (sent_free n w F f) }
goes n w x h rx tx (is_left l F e) f a = record { none = refl; free = none_came n _ _ f }
goes n w x h rx tx (is_handed F e) f a = record { none = refl; free = none_came n _ _ f }

-- the same of a run
none_lost : (cs : List Call) (n : ℕ) (w : World) → Free n w.state.rx w.rx →
    length (course.all (of_said arrived) (machine.course (telling step) cs w)) ≤ n → course.all (of_said lost) (machine.course (telling step) cs w) ≡ []
unfolding course.all machine.course
none_lost [] n w f a = refl
none_lost (c ∷ cs) n w f a =
    let now : List ℕ = arrived c w (answer c w) in
    let later : List ℕ = course.all (of_said arrived) (machine.course (telling step) cs (after c w)) in
    let sum : length (now ++ later) ≡ length now + length later = length-append now later in
    let g = goes n w (seen c w (answer c w)) (core (after c w).state) (after c w).rx (after c w).tx (view c w) f (omega (arith, sum)) in
    both g.none (none_lost cs (n - length now) (after c w) g.free (omega (arith, sum)))
  where
    both : {a b : List ℕ} → a ≡ [] → b ≡ [] → a ++ b ≡ []
    both e f = λ i. e i ++ f i

-- the room told by a line byte is free after it
told_free : (b : ℕ) (w : World) → taken (answer (on (line_byte b)) w) ≡ true →
    Free (step (on (line_byte b)) w).room (after (on (line_byte b)) w).state.rx (after (on (line_byte b)) w).rx
unfolding room_of
told_free b w t =
    let v : World = after (on (line_byte b)) w in
    let fit = (rx_fits v.state v.rx v.tx (keeps_fit (on (line_byte b)) w tt (taken_fits (line_byte b) w t))).ring in
    record { cap = fit.cap; room = omega (arith, told_after (line_byte b) w t) }

pub room_holds : Obeys (telling step) RoomHolds
room_holds (on (line_byte b)) cs w B k ks t a = none_lost cs (step (on (line_byte b)) w).room (after (on (line_byte b)) w) (told_free b w t) a
room_holds (create m) cs w B k ks t a = absurd (false≢true t)
room_holds (show side) cs w B k ks t a = absurd (false≢true t)
room_holds (on reset) cs w B k ks t a = absurd (false≢true t)
room_holds (on (write n v)) cs w B k ks t a = absurd (false≢true t)
room_holds (on line_break) cs w B k ks t a = absurd (false≢true t)
room_holds (on key) cs w B k ks t a = absurd (false≢true t)
room_holds (on ask_line_byte) cs w B k ks t a = absurd (false≢true t)
room_holds (on (take_line_byte b)) cs w B k ks t a = absurd (false≢true t)
room_holds (on (loop_frame f)) cs w B k ks t a = absurd (false≢true t)
