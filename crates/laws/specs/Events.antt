-- What happened stays in the status byte until it is told: bits 4, 5 and 7 over a run, register writes included.
use Rattle.std.specs.Prelude.{ℕ, ◌≡◌, Bool, true, false, cond, ◌||◌, ◌⊎◌, List, length}
use Rattle.machine.specs.Course.{of, end, Without}
use Rattle.machine.specs.Machine.{of_calls, of_since}
use Rattle.places.specs.OneStore.{next_place, place_before, marked_at}
use Rattle.reading.specs.Received.{marked_cell}
use Rattle.status.specs.declared.Events.{Events}
use Rattle.answers.specs.Answers.{Said}
use Rattle.state.specs.State.{with_notes}
use Rattle.bridge.specs.Calls.{key, Call, World, world}
use Rattle.laws.specs.Bridges.{Law, Saw}
use Rattle.laws.specs.Observers.{any, taken, on_one, lost, breaks, empties}
use Rattle.laws.specs.Worlds.{holds_some}
use Rattle.laws.specs.StatusWay.{sent_and_back}

-- a break, a byte lost, a press of the MSRQ key
pub data Event : Type 0 where
  broken : Event
  overrun : Event
  pressed : Event

-- whether it is noted
abbrev pub noted : Event → Events → Bool
noted broken x = x.brk
noted overrun x = x.overrun
noted pressed x = x.key

-- its bit: the status byte that is sent shows it, by a law of its own
abbrev pub bit_of : Event → World → Bool
bit_of e w = noted e w.state.notes.seen

-- the calls in which it happens
abbrev pub happens : Event → Call → World → Said → Bool
happens broken c w a = breaks c w a
happens overrun c w a = any (lost c w a)
happens pressed c w a = on_one key (taken a) false c

-- demand 3, the overrun bit, and Status byte, bits 4, 5 and 7: the bit of what happened stays until a status byte sent after it has come
-- back unchanged, or a create, reset or device clear
abbrev pub Stays : Event → Law
Stays e = of_since (λ s ss. of (happens e) s ≡ true → Without empties ss → (bit_of e (end s.after ss) ≡ true) ⊎ (sent_and_back ss ≡ true))

-- ---- a break and a key press do nothing else

-- two events are the same
abbrev pub same : Event → Event → Bool
same broken broken = true
same broken overrun = false
same broken pressed = false
same overrun broken = false
same overrun overrun = true
same overrun pressed = false
same pressed broken = false
same pressed overrun = false
same pressed pressed = true

-- the receive store after it: a break marks the newest byte that is held
abbrev pub store_with : Event → World → List ℕ
store_with broken w = cond (holds_some w) (marked_at marked_cell (place_before (length w.rx) (next_place (length w.rx) w.state.rx)) w.rx) w.rx
store_with overrun w = w.rx
store_with pressed w = w.rx

-- only the notes change besides, and of these only the event's own bit, the note that it happened again, and the request
pub record OnlyNoted (e : Event) (s : Saw) : Type 0 where
  pub rest : s.after ≡ world (with_notes s.before.state s.after.state.notes) (store_with e s.before) s.before.tx
  pub seen : (d : Event) → noted d s.after.state.notes.seen ≡ (noted d s.before.state.notes.seen || same d e)
  pub again : (d : Event) → noted d s.after.state.notes.again ≡ (noted d s.before.state.notes.again || same d e)

-- Status byte, a break and a key press: of either
abbrev pub Alone : Event → Law
Alone e = of_calls (λ s. of (happens e) s ≡ true → OnlyNoted e s)
