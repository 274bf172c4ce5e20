-- What is seen of a call from outside: from the call, the world before it and its answer. Nothing here looks at the world after it.
use Rattle.std.specs.Prelude.{ℕ, ◌+◌, ◌%◌, Bool, true, false, cond, ◌&&◌, ◌||◌, not, List, [], ◌∷◌, map, eqb, leb, ltb}
use Rattle.frame.specs.Frame.{control_of, data_of, made, is_data, is_end}
use Rattle.store.specs.declared.Ring.{Ring}
use Rattle.store.specs.Ring.{held}
use Rattle.news.specs.declared.News.{News}
use Rattle.answers.specs.Answers.{Said, done, none, byte, frame, refused, part, cell, lines, is_refusal}
use Rattle.mailbox.specs.Calls.{OnState, reset, loop_frame, bus_command, bus_byte, bus_fetch, bus_clear, bus_lines}
use Rattle.mailbox.specs.Calls.{Call, create, show, on, on_state, of_frame, of_bus_byte, World}

-- ---- the two ways

-- what the loop leaves for the bus, and what the bus leaves for the loop
pub data Direction : Type 0 where
  to_bus : Direction
  to_loop : Direction

abbrev pub other : Direction → Direction
other to_bus = to_loop
other to_loop = to_bus

abbrev pub store_of : Direction → World → List ℕ
store_of to_bus w = w.tobus
store_of to_loop w = w.toloop

abbrev pub ring_of : Direction → World → Ring
ring_of to_bus w = w.state.tobus.ring
ring_of to_loop w = w.state.toloop.ring

abbrev pub news_of : Direction → World → News
news_of to_bus w = w.state.tobus.news
news_of to_loop w = w.state.toloop.news

-- of a cell the low nine bits count: the byte, and 256 where its end is marked
abbrev pub counted : ℕ → ℕ
counted c = c % 512

-- what waits, the oldest first
abbrev pub waits : Direction → World → List ℕ
waits d w = map counted (held (store_of d w) (ring_of d w))

-- ---- answers

-- the call was not refused
abbrev pub taken : Said → Bool
taken a = not (is_refusal a)

-- what is seen of a frame, and of any other answer
abbrev pub of_frame_said : {X : Type 0} → (ℕ → ℕ → X) → X → Said → X
of_frame_said see nothing (frame k d) = see k d
of_frame_said see nothing (refused n) = nothing
of_frame_said see nothing done = nothing
of_frame_said see nothing none = nothing
of_frame_said see nothing (byte b) = nothing
of_frame_said see nothing (part l) = nothing
of_frame_said see nothing (cell n) = nothing
of_frame_said see nothing (lines n) = nothing

-- what is seen of a cell, and of any other answer
abbrev pub of_cell_said : {X : Type 0} → (ℕ → X) → X → Said → X
of_cell_said see nothing (cell n) = see n
of_cell_said see nothing (frame k d) = nothing
of_cell_said see nothing (refused n) = nothing
of_cell_said see nothing done = nothing
of_cell_said see nothing none = nothing
of_cell_said see nothing (byte b) = nothing
of_cell_said see nothing (part l) = nothing
of_cell_said see nothing (lines n) = nothing

-- the answer is a frame
abbrev pub is_frame : Said → Bool
is_frame = of_frame_said (λ k d. true) false

-- the data frame answered, as the cell that it carries: controls 2 and 3 are an end byte, and 1 and 3 have the service bit
abbrev pub data_cell : Said → List ℕ
data_cell = of_frame_said (λ k d. cond (ltb k 4) (cond (leb 2 k) (d + 256) d ∷ []) []) []

-- the data byte of the data frame answered
abbrev pub data_byte : Said → List ℕ
data_byte = of_frame_said (λ k d. cond (ltb k 4) (d ∷ []) []) []

-- the cell answered
abbrev pub cell_said : Said → List ℕ
cell_said = of_cell_said (λ n. n ∷ []) []

-- there is something
abbrev pub any : List ℕ → Bool
any [] = false
any (x ∷ xs) = true

-- ---- calls by their kind: what is seen of the one kind, and nothing of any other call

abbrev pub on_frame : {X : Type 0} → (ℕ → X) → X → Call → X
on_frame see nothing = on_state (of_frame see nothing) nothing

abbrev pub on_bus_byte : {X : Type 0} → (ℕ → Bool → X) → X → Call → X
on_bus_byte see nothing = on_state (of_bus_byte see nothing) nothing

abbrev of_bus_command : {X : Type 0} → (ℕ → X) → X → OnState → X
of_bus_command see nothing (bus_command c) = see c
of_bus_command see nothing reset = nothing
of_bus_command see nothing (loop_frame f) = nothing
of_bus_command see nothing (bus_byte b mark) = nothing
of_bus_command see nothing bus_fetch = nothing
of_bus_command see nothing bus_clear = nothing
of_bus_command see nothing bus_lines = nothing

abbrev pub on_bus_command : {X : Type 0} → (ℕ → X) → X → Call → X
on_bus_command see nothing = on_state (of_bus_command see nothing) nothing

-- calls that bring no number, by their kind
abbrev pub kind_on : OnState → ℕ
kind_on reset = 0
kind_on (loop_frame f) = 1
kind_on (bus_command c) = 2
kind_on (bus_byte b mark) = 3
kind_on bus_fetch = 4
kind_on bus_clear = 5
kind_on bus_lines = 6

abbrev pub on_one : {X : Type 0} → OnState → X → X → Call → X
on_one d seen nothing = on_state (λ c. cond (eqb (kind_on c) (kind_on d)) seen nothing) nothing

-- ---- roles before the call

abbrev pub loop_listens : World → Bool
loop_listens w = w.state.talker.role.listener

-- a frame of ours is under way
abbrev pub loop_active : World → Bool
loop_active w = leb 2 w.state.talker.role.phase

-- addressed to talk on the loop, and nothing under way
abbrev pub loop_addressed : World → Bool
loop_addressed w = eqb w.state.talker.role.phase 1

abbrev pub bus_listens : World → Bool
bus_listens w = w.state.bus.role.listener

abbrev pub bus_talks : World → Bool
bus_talks w = leb 1 w.state.bus.role.phase

-- ---- what is left

-- Response to HP-IL messages, data and end bytes; and to HP-IB messages, DAB and END: a listener keeps the byte, its end marked
abbrev pub cell_for : ℕ → Bool → ℕ
cell_for b mark = cond mark (b + 256) b

unfoldable pub left : Direction → Call → World → Said → List ℕ
left to_bus c w a = on_frame (λ f. cond (taken a && (is_data f && loop_listens w)) (cell_for (data_of f) (is_end f) ∷ []) []) [] c
left to_loop c w a = on_bus_byte (λ b mark. cond (taken a && bus_listens w) (cell_for b mark ∷ []) []) [] c

-- ---- what is fetched

-- the data frame under way comes from the way to the loop, and not from an ID
abbrev pub from_way : World → Bool
from_way w = eqb w.state.source 0

-- Retrieving data, on the loop: what answers send data, or the return of such a frame; on the bus: what is fetched outside a serial poll
unfoldable pub fetched : Direction → Call → World → Said → List ℕ
fetched to_bus c w a = on_one bus_fetch (cond w.state.bus.serial [] (cell_said a)) [] c
fetched to_loop c w a = on_frame (λ f. cond (eqb f (made 5 96) || (is_data f && (loop_active w && from_way w))) (data_cell a) []) [] c

-- ---- calls that clear: a refused one is none

-- a create or reset
unfoldable pub restarts : Call → Said → Bool
restarts (create m) a = taken a
restarts (show side) a = false
restarts (on c) a = eqb (kind_on c) 0 && taken a

-- Device clear, and selected device clear to a listener, with the same numbers on both sides
abbrev pub asks_clear : Bool → ℕ → Bool
asks_clear listens d = eqb d 20 || (eqb d 4 && listens)

-- Device clear: each side clears what it left itself
unfoldable pub clears_by : Direction → Call → World → Said → Bool
clears_by to_bus c w a = on_frame (λ f. taken a && (eqb (control_of f) 4 && asks_clear (loop_listens w) (data_of f))) false c
clears_by to_loop c w a = on_bus_command (λ d. taken a && asks_clear (bus_listens w) d) false c

abbrev pub clears : Direction → Call → World → Said → Bool
clears d c w a = restarts c a || clears_by d c w a

-- ---- news

-- the status byte: bit 6 says that service is requested, bit 0 that data is available
abbrev pub status_of : News → ℕ
status_of n = cond n.request (cond n.available 65 64) (cond n.available 1 0)

-- something comes into an empty way
abbrev pub comes : Direction → Call → World → Said → Bool
comes d c w a = any (left d c w a) && not (any (waits d w))

-- the status byte that a side is given: on the loop what answers send status, on the bus what is fetched in a serial poll
unfoldable pub told : Direction → Call → World → Said → List ℕ
told to_bus c w a = on_one bus_fetch (cond w.state.bus.serial (cell_said a) []) [] c
told to_loop c w a = on_frame (λ f. cond (eqb f (made 5 97)) (data_byte a) []) [] c
