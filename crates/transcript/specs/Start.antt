-- Proved examples, the program onepass: the run starts from what the call create gives.
use Rattle.std.specs.Prelude.{◌≡◌, length}
use Rattle.state.specs.declared.State.{State}
use Rattle.answers.specs.Answers.{done}
use Rattle.state.specs.Sizes.{start_state}
use Rattle.bridge.specs.Calls.{create, world, step}
use Rattle.transcript.specs.Transcript.{store}

-- create is done, whatever state stood there, and leaves the state that the registers are then set in
abbrev pub StartsCreated : Type 0
StartsCreated =
    (s : State) →
    step (create 8) (world s store store) ≡ record { said = done; room = 0; world = world (start_state 8 (length store) (length store)) store store }
