-- The worlds that wrong bridges are tried in, and the frames that they are given.
use Rattle.std.specs.Prelude.{ℕ, Bool, true, false, List, [], ◌∷◌, length}
use Rattle.frame.specs.Frame.{made}
use Rattle.registers.specs.Table.{start_registers}
use Rattle.registers.specs.Writing.{written}
use Rattle.role.specs.Role.{start_role, addressed, active_data, active_status, with_phase, with_listener}
use Rattle.state.specs.Sizes.{start_state}
use Rattle.state.specs.State.{with_registers, with_rx, with_tx, with_line, with_counts}
use Rattle.line.specs.HoldingOff.{with_holding}
use Rattle.bridge.specs.Calls.{World, world}
use Rattle.laws.specs.Events.{Event, broken, overrun, pressed}
use Rattle.refuting.specs.SmallRings.{ring}
use Rattle.wrong.specs.Changing.{with_role, with_under}
use Rattle.wrong.specs.Seeing.{having, with_noted, with_forbidden}

-- ---- on the loop: addressed talkers with the margin 1 and R10 bit 3 on, so that C00, C01 behind a byte make it an end byte

-- one whose receive store is full of these bytes
abbrev pub full_of : List ℕ → World
full_of bs =
    world
    (with_role (with_registers (with_rx (start_state 1 (length bs) 3) (ring (length bs) 0 (length bs))) (written start_registers 10 8))
    (with_phase start_role addressed))
    bs (0 ∷ 0 ∷ 0 ∷ [])

-- one that holds the first n of these cells
abbrev pub holding_first : ℕ → List ℕ → World
holding_first n cells = having (λ s. with_rx s (ring (length cells) 0 n)) (full_of cells)

-- two lines, "1" and "2", each with 13 and 10 behind it
abbrev pub two_lines : List ℕ
two_lines = 49 ∷ 13 ∷ 10 ∷ 50 ∷ 13 ∷ 10 ∷ []

abbrev pub full : World
full = full_of two_lines

-- the same when the first line has gone as the end byte 2,49, where the frame f is recorded as under way and the talker is in this phase
abbrev pub one_sent : ℕ → ℕ → World
one_sent phase f =
    having
    (λ s. with_counts (with_under (with_role (with_rx s (ring 6 3 3)) (with_phase start_role phase)) (record { frame = f; finishing = false }))
    (record { stored = 0; lost = 0; sent = 1 }))
    full

-- where the event is noted
abbrev pub full_noting : Event → World
full_noting e = having (with_noted e true) full

-- for each event: a break comes where nothing is held, so that it marks no cell
abbrev pub for_event : World → Event → World
for_event w broken = having (λ s. with_rx s (ring 6 0 0)) w
for_event w overrun = w
for_event w pressed = w

-- where the status byte 47 is under way
abbrev pub status_under_way : World
status_under_way =
    having (λ s. with_under (with_role s (with_phase start_role active_status)) (record { frame = made 0 47; finishing = false })) full

-- the frame that carries "1" of the first line, and the same with another device's request
abbrev pub first_frame : ℕ
first_frame = made 2 49

abbrev pub first_requested : ℕ
first_requested = made 3 49

-- a line, and a pair of C00, C01 that nothing stands before; the pair first, with two more bytes
abbrev pub pair_after_line : List ℕ
pair_after_line = 49 ∷ 13 ∷ 10 ∷ 13 ∷ 10 ∷ 50 ∷ []

abbrev pub pair_first : List ℕ
pair_first = 13 ∷ 10 ∷ 49 ∷ 50 ∷ []

-- cells with a break behind the first byte: inside the pair, behind an undecided byte, and before a pair
abbrev pub broken_pair : List ℕ
broken_pair = 269 ∷ 10 ∷ 0 ∷ 0 ∷ []

abbrev pub broken_byte : List ℕ
broken_byte = 306 ∷ 0 ∷ 0 ∷ 0 ∷ []

abbrev pub broken_before : List ℕ
broken_before = 306 ∷ 13 ∷ 10 ∷ 0 ∷ []

-- and at the last place of the store
abbrev pub broken_at_the_end : World
broken_at_the_end = having (λ s. with_rx s (ring 4 3 1)) (full_of (0 ∷ 0 ∷ 0 ∷ 306 ∷ []))

-- the same inside a pair of two equal characters
abbrev pub broken_equal_pair : World
broken_equal_pair = having (λ s. with_registers s (written s.regs 16 10)) (holding_first 2 (266 ∷ 10 ∷ 0 ∷ 0 ∷ []))

-- a line in whose cells bits above the ninth are set
abbrev pub upper_bits : List ℕ
upper_bits = 50 ∷ 1037 ∷ 10 ∷ 0 ∷ []

-- a byte and C00, which are undecided
abbrev pub half_pair : List ℕ
half_pair = 50 ∷ 13 ∷ 0 ∷ 0 ∷ []

-- only a pair and an undecided byte are held, and the line is held off
abbrev pub undecided_bytes : List ℕ
undecided_bytes = 13 ∷ 10 ∷ 13 ∷ 0 ∷ []

abbrev pub undecided : World
undecided = having (λ s. with_line (with_rx s (ring 4 0 3)) (record { holding = true; forbidden = false; stopped = true })) (full_of undecided_bytes)

-- Frames: ready 96 and 97, which ask a talker for data and for status; ready 66; a device clear, to a listener and to others
abbrev pub send_data : ℕ
send_data = made 5 96

abbrev pub send_status : ℕ
send_status = made 5 97

abbrev pub finish : ℕ
finish = made 5 66

abbrev pub clear_all : ℕ
clear_all = made 4 20

-- ---- on the line: a bridge with the margin 1 and a receive store of four that has stored "1" to "4", or the first of them

abbrev pub one_to_four : List ℕ
one_to_four = 49 ∷ 50 ∷ 51 ∷ 52 ∷ []

-- k of them came in and are held; whether the line is held off, and whether stop was the last that was sent
abbrev pub came_in : ℕ → Bool → Bool → World
came_in k holding stopped =
    world
    (with_line (with_counts (with_rx (start_state 1 4 3) (ring 4 0 k)) (record { stored = k; lost = 0; sent = 0 }))
    (record { holding = holding; forbidden = false; stopped = stopped }))
    one_to_four (0 ∷ 0 ∷ 0 ∷ [])

-- an addressed talker, and the same when "1" has gone as 0,49 and n bytes are held, of k that came in
abbrev pub talker_came_in : ℕ → Bool → World
talker_came_in k holding = having (λ s. with_role s (with_phase start_role addressed)) (came_in k holding false)

abbrev pub one_gone : ℕ → ℕ → Bool → World
one_gone k n holding =
    having
    (λ s. with_under (with_role (with_counts (with_rx s (ring 4 1 n)) (record { stored = k; lost = 0; sent = 1 })) (with_phase start_role active_data))
    (record { frame = made 0 49; finishing = false }))
    (came_in k holding false)

-- the protocol is switched off
abbrev pub switched_off : World → World
switched_off = having (λ s. with_registers s (written s.regs 11 0))

-- the other end forbids our sending
abbrev pub forbidding : World → World
forbidding = having (λ s. with_forbidden s true)

-- ---- for the line

-- a transmit store that begins with the byte b, and holds it or nothing
abbrev pub begun_with : ℕ → List ℕ
begun_with b = b ∷ 0 ∷ 0 ∷ []

abbrev pub one_for_the_line : ℕ → World
one_for_the_line b = world (with_tx (start_state 1 4 3) (ring 3 0 1)) one_to_four (begun_with b)

-- the same when it is gone
abbrev pub gone_from_line : ℕ → World
gone_from_line b = having (λ s. with_tx s (ring 3 1 0)) (one_for_the_line b)

-- the same world when three bytes have come in, so that stop has become due
abbrev pub stop_is_due : World → World
stop_is_due = having (λ s. with_rx (with_holding s true) (ring 4 0 3))

-- a listener that adds C02, C03 to an end byte
abbrev pub listener_adding_ends : World
listener_adding_ends = world (with_role (with_registers (start_state 1 4 3) (written start_registers 10 4)) (with_listener start_role true)) one_to_four (begun_with 0)
