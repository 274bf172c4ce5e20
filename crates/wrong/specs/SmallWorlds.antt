-- Small worlds, by what differs from the start, and the calls that are made in them.
use Rattle.std.specs.Prelude.{ℕ, true, false, List, [], ◌∷◌}
use Rattle.frame.specs.Frame.{made}
use Rattle.registers.specs.Table.{start_registers}
use Rattle.registers.specs.Writing.{written}
use Rattle.role.specs.declared.Role.{Role}
use Rattle.role.specs.Role.{with_phase}
use Rattle.state.specs.declared.State.{State}
use Rattle.state.specs.Sizes.{start_state}
use Rattle.state.specs.State.{with_registers, with_remote, with_rx, with_tx, with_counts}
use Rattle.state.specs.Conditions.{with_request}
use Rattle.bridge.specs.Calls.{Call, on, loop_frame, World, world}
use Rattle.laws.specs.Events.{Event}
use Rattle.refuting.specs.SmallRings.{ring}
use Rattle.wrong.specs.Changing.{with_role, with_under}
use Rattle.wrong.specs.Seeing.{with_noted}
use Rattle.wrong.specs.Trials.{one_to_four}

-- the bytes of a transmit store of three places
abbrev pub transmit_bytes : List ℕ
transmit_bytes = 65 ∷ 66 ∷ 67 ∷ []

-- the start with a margin of 1, a receive store of four places that "1" to "4" stand in, and its state changed
abbrev pub started : (State → State) → World
started change = world (change (start_state 1 4 3)) one_to_four transmit_bytes

abbrev pub fresh : World
fresh = started (λ s. s)

-- the start, but for one register
abbrev registered : ℕ → ℕ → State → State
registered n v s = with_registers s (written start_registers n v)

-- a state that holds n bytes of the receive store
abbrev holds : ℕ → State → State
holds n s = with_rx s (ring 4 0 n)

-- R10 bit 3 is on
abbrev pub detecting : World
detecting = started (λ s. registered 10 8 s)

-- a margin of 2 is recorded, which wants six places and not four
abbrev pub misfitting : World
misfitting = world (start_state 2 4 3) one_to_four transmit_bytes

-- ---- roles

abbrev playing : Role → World
playing r = started (λ s. with_role s r)

-- at address 5: neither talker nor listener; listener; addressed talker; active with data
abbrev neither : Role
neither = record { address = 5; phase = 0; listener = false }

abbrev listener : Role
listener = record { address = 5; phase = 0; listener = true }

abbrev talker : Role
talker = with_phase neither 1

abbrev active : Role
active = with_phase neither 2

abbrev pub assigned : World
assigned = playing neither

-- a listener that is remote
abbrev pub listening : World
listening = started (λ s. with_remote (with_role s listener) (record { enabled = true; remote = true }))

abbrev pub addressed_talker : World
addressed_talker = playing talker

-- active with data: 0,48 is under way, and two bytes are held
abbrev pub active_talker : World
active_talker = started (λ s. holds 2 (with_under (with_role s active) (record { frame = 48; finishing = false })))

-- a listener that has room for one byte, where an end byte adds three
abbrev pub nearly_full : World
nearly_full = started (λ s. with_tx (with_role (registered 10 4 s) listener) (ring 3 0 2))

-- ---- stores

abbrev pub holding_bytes : ℕ → World
holding_bytes n = started (λ s. holds n s)

-- an addressed talker that holds one byte
abbrev pub talker_of_one : World
talker_of_one = started (λ s. holds 1 (with_role s talker))

-- an addressed talker whose transmit store is full
abbrev pub talker_without_room : World
talker_without_room = started (λ s. with_tx (with_role s talker) (ring 3 0 3))

-- ---- notes and counts

abbrev pub happened : Event → World
happened e = started (λ s. with_noted e true s)

-- an addressed talker with a request that does not show, and with one that does
abbrev pub hidden_request : World
hidden_request = started (λ s. with_request (with_role s talker) true)

abbrev pub shown_request : World
shown_request = started (λ s. with_request (with_role (registered 0 8 s) talker) true)

abbrev pub counting : World
counting = started (λ s. with_counts s (record { stored = 3; lost = 2; sent = 1 }))

-- ---- calls

abbrev pub takes : ℕ → ℕ → Call
takes k d = on (loop_frame (made k d))

abbrev pub takes_command : ℕ → Call
takes_command d = takes 4 d

abbrev pub takes_ready : ℕ → Call
takes_ready d = takes 5 d
