-- Our bridge changed where something is seen of a call, and changes that several wrong bridges make.
use Rattle.std.specs.Prelude.{ℕ, Bool, true, false, cond, ◌&&◌, not, List}
use Rattle.status.specs.declared.Events.{Events}
use Rattle.store.specs.Ring.{drop_ring}
use Rattle.reading.specs.Steps.{starts_with_pair}
use Rattle.state.specs.declared.State.{State}
use Rattle.answers.specs.Answers.{Said}
use Rattle.state.specs.State.{with_rx, with_line, with_notes}
use Rattle.bridge.specs.Calls.{Call, World, world, Did, step}
use Rattle.laws.specs.Observers.{any, on_frame, sent, asks_status}
use Rattle.laws.specs.Worlds.{rule_in, held_to_send}
use Rattle.laws.specs.Holding.{sends}
use Rattle.laws.specs.Events.{Event, broken, overrun, pressed}
use Rattle.wrong.specs.Changing.{afterwards, instead}

-- what is seen of a call, as an observer sees it
abbrev pub Sight : Type 0
Sight = Call → World → Said → Bool

-- where this is seen of what ours does, its state is changed; the change is given the state before the call and ours after it
abbrev pub after_sight : Sight → (State → State → State) → Call → World → Did
after_sight seen change = afterwards (λ c w s. cond (seen c w (step c w).said) (change w.state s) s)

-- where this is seen of what ours does, another thing is done
abbrev pub instead_at : Sight → (Call → World → Did) → Call → World → Did
instead_at seen = instead (λ c w. seen c w (step c w).said)

-- it answers so and tells no room, and nothing is changed
abbrev pub only : Said → World → Did
only a w = record { said = a; room = 0; world = w }

-- a world, and what was done, with the state changed
abbrev pub having : (State → State) → World → World
having change w = world (change w.state) w.rx w.tx

abbrev pub in_state : (State → State) → Did → Did
in_state change d = record { said = d.said; room = d.room; world = having change d.world }

-- what was done, with this in the receive store
abbrev pub keeping : List ℕ → Did → Did
keeping rx d = record { said = d.said; room = d.room; world = world d.world.state rx d.world.tx }

-- ---- what is seen

abbrev pub always : Sight
always c w a = true

-- status is asked for
abbrev pub status_asked : Sight
status_asked c w a = on_frame (asks_status w.state) false c

-- a send that gives no frame
abbrev pub empty_send : Sight
empty_send c w a = sends c w a && not (any (sent c w a))

-- ---- what is changed

-- the other end forbids our sending, or not; the last of go and stop that we sent is stop, or not
abbrev pub with_forbidden : State → Bool → State
with_forbidden s f = with_line s (record { holding = s.line.holding; forbidden = f; stopped = s.line.stopped })

abbrev pub with_stopped : State → Bool → State
with_stopped s k = with_line s (record { holding = s.line.holding; forbidden = s.line.forbidden; stopped = k })

-- what a call does where no go or stop is owed; which of them was sent last stays recorded as it was
abbrev pub as_if_none_owed : Call → World → Did
as_if_none_owed c w = in_state (λ s. with_stopped s w.state.line.stopped) (step c (having (λ s. with_stopped s s.line.holding) w))

-- the event is noted, or not
abbrev pub noting : Event → Bool → Events → Events
noting broken b x = record { brk = b; overrun = x.overrun; key = x.key }
noting overrun b x = record { brk = x.brk; overrun = b; key = x.key }
noting pressed b x = record { brk = x.brk; overrun = x.overrun; key = b }

abbrev pub with_noted : Event → Bool → State → State
with_noted e b s = with_notes s (record { seen = noting e b s.notes.seen; again = s.notes.again; request = s.notes.request })

-- the n oldest bytes are removed from the receive store; a pair of C00, C01 is, where it is the oldest that is held
abbrev pub without_oldest : ℕ → World → World
without_oldest n = having (λ s. with_rx s (drop_ring s.rx n))

abbrev pub pair_removed : World → World
pair_removed v = cond (starts_with_pair (rule_in v) (held_to_send v)) (without_oldest 2 v) v
