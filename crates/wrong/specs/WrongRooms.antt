-- Bridges that tell another room than there is.
use Rattle.std.specs.Prelude.{ℕ, cond}
use Rattle.store.specs.Ring.{room}
use Rattle.answers.specs.Answers.{is_refusal}
use Rattle.state.specs.declared.State.{State}
use Rattle.bridge.specs.Calls.{Call, World, Did, room_of, step}
use Rattle.bridge.specs.Calls as calls
use Rattle.laws.specs.Observers.{on_line_byte, on_frame, accepted, added, any}

-- what ours does, with another room told
abbrev telling_so : (Call → World → Did → ℕ) → Call → World → Did
telling_so left c w = record { said = (step c w).said; room = left c w (step c w); world = (step c w).world }

-- the room that ours tells of this state, where it is not refused
abbrev of_state : Call → State → ℕ
of_state c s = calls.on_state (λ x. room_of x s) 0 c

-- tells the room that there was before the call
abbrev pub tells_before : Call → World → Did
tells_before = telling_so (λ c w d. cond (is_refusal d.said) 0 (of_state c w.state))

-- tells the room of the other store
abbrev pub tells_the_other : Call → World → Did
tells_the_other =
    telling_so
    (λ c w d. cond (is_refusal d.said) 0
    (on_line_byte (λ b. room d.world.state.tx) (on_frame (λ f. room d.world.state.rx) 0 c) c))

-- a refusal is not its number alone: it tells the room too
abbrev pub tells_when_refused : Call → World → Did
tells_when_refused = telling_so (λ c w d. of_state c d.world.state)

-- tells no room where nothing went in, as at go and stop
abbrev pub tells_if_stored : Call → World → Did
tells_if_stored =
    telling_so
    (λ c w d. on_line_byte (λ b. cond (any (accepted c w d.said)) d.room 0) (on_frame (λ f. cond (any (added c w d.said)) d.room 0) d.room c) c)
