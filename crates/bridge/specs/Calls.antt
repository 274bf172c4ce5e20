-- The calls: what each answers, and the state and every cell and byte of the stores after it.
use Rattle.std.specs.Prelude.{ℕ, ◌≡◌, Bool, false, cond, ◌&&◌, ◌||◌, not, List, [], ◌∷◌, ◌++◌, eqb, ltb, length, Result, Ok, Err}
use Rattle.answers.specs.Refusals.{Check, check, first_refusal}
use Rattle.registers.specs.Writing.{write_checks, written}
use Rattle.store.specs.declared.Ring.{Ring}
use Rattle.store.specs.Ring.{room, run}
use Rattle.state.specs.declared.State.{State}
use Rattle.state.specs.Outcome.{Outcome}
use Rattle.std.specs.Prelude.{Option}
use Rattle.state.specs.declared.Next.{Next}
use Rattle.bridge.specs.declared.Told.{Told}
use Rattle.answers.specs.declared.Answer.TheVariants as answer
use Rattle.answers.specs.declared.Refusal.{Refusal}
use Rattle.answers.specs.Answers.{Said, said, refused, part, number_of}
use Rattle.state.specs.Sizes.{sizes_obeyed, start_state, fits}
use Rattle.loopside.specs.LoopToLine.{busy}
use Rattle.line.specs.Breaks.{break_cells}
use Rattle.line.specs.HoldingOff.{line_state, line_bytes, after_write, next_out, is_next, gone, out_answer}
use Rattle.state.specs.Conditions.{settled, break_state, key_state}
use Rattle.loopside.specs.Frames.{device_clear, frame_taken, frame_bytes}

-- What is built, calls: eight are made on a state. Ask, then take: the next line byte is asked for, and taken by its name; what was one call
-- that gave it is these two
pub data OnState : Type 0 where
  reset : OnState
  write : ℕ → ℕ → OnState
  line_byte : ℕ → OnState
  line_break : OnState
  key : OnState
  ask_line_byte : OnState
  take_line_byte : ℕ → OnState
  loop_frame : ℕ → OnState

-- the two stores
pub data Store : Type 0 where
  receive : Store
  transmit : Store

-- create makes a state, and showing a store only looks at one
pub data Call : Type 0 where
  create : ℕ → Call
  show : Store → Call
  on : OnState → Call

-- ---- a call by its kind: what is seen of the one kind, and nothing of the others

abbrev pub on_state : {X : Type 0} → (OnState → X) → X → Call → X
on_state see nothing (create m) = nothing
on_state see nothing (show side) = nothing
on_state see nothing (on c) = see c

abbrev pub of_frame : {X : Type 0} → (ℕ → X) → X → OnState → X
of_frame see nothing (loop_frame f) = see f
of_frame see nothing reset = nothing
of_frame see nothing (write n v) = nothing
of_frame see nothing (line_byte b) = nothing
of_frame see nothing line_break = nothing
of_frame see nothing key = nothing
of_frame see nothing ask_line_byte = nothing
of_frame see nothing (take_line_byte b) = nothing

abbrev pub of_line_byte : {X : Type 0} → (ℕ → X) → X → OnState → X
of_line_byte see nothing (line_byte b) = see b
of_line_byte see nothing reset = nothing
of_line_byte see nothing (write n v) = nothing
of_line_byte see nothing line_break = nothing
of_line_byte see nothing key = nothing
of_line_byte see nothing ask_line_byte = nothing
of_line_byte see nothing (take_line_byte b) = nothing
of_line_byte see nothing (loop_frame f) = nothing

-- a line byte that is named to be taken
abbrev pub of_take : {X : Type 0} → (ℕ → X) → X → OnState → X
of_take see nothing (take_line_byte b) = see b
of_take see nothing reset = nothing
of_take see nothing (write n v) = nothing
of_take see nothing (line_byte b) = nothing
of_take see nothing line_break = nothing
of_take see nothing key = nothing
of_take see nothing ask_line_byte = nothing
of_take see nothing (loop_frame f) = nothing

abbrev pub of_write : {X : Type 0} → (ℕ → ℕ → X) → X → OnState → X
of_write see nothing (write n v) = see n v
of_write see nothing reset = nothing
of_write see nothing (line_byte b) = nothing
of_write see nothing line_break = nothing
of_write see nothing key = nothing
of_write see nothing ask_line_byte = nothing
of_write see nothing (take_line_byte b) = nothing
of_write see nothing (loop_frame f) = nothing

-- two calls on a state are of one kind
abbrev pub kind_on : OnState → ℕ
kind_on reset = 0
kind_on (write n v) = 1
kind_on (line_byte b) = 2
kind_on line_break = 3
kind_on key = 4
kind_on ask_line_byte = 5
kind_on (take_line_byte b) = 6
kind_on (loop_frame f) = 7

abbrev pub is : OnState → OnState → Bool
is c d = eqb (kind_on c) (kind_on d)

-- a state, the cells of the receive store and the bytes of the transmit store
pub record World : Type 0 where
  pub state : State
  pub rx : List ℕ
  pub tx : List ℕ

abbrev pub world : State → List ℕ → List ℕ → World
world s rx tx = record { state = s; rx = rx; tx = tx }

-- what a call did: its answer, the room that it tells beside it, 0 where it tells none, and the world after it
pub record Did : Type 0 where
  pub said : Said
  pub room : ℕ
  pub world : World

-- what a call did that only looks: its answer, and the world as it was
abbrev pub looked : Said → World → Did
looked a w = record { said = a; room = 0; world = w }

-- of a call that was lent the state s, and left the stores so: its outcome; or its refusal by its number, which tells no room and leaves s as it was
abbrev pub did : State → Result Outcome Refusal → List ℕ → List ℕ → Did
did s (Ok o) rx tx = record { said = said o.answer; room = 0; world = world o.state rx tx }
did s (Err r) rx tx = looked (refused (number_of r)) (world s rx tx)

-- of a call that tells the room
abbrev pub told : State → Result Told Refusal → List ℕ → List ℕ → Did
told s (Ok t) rx tx = record { said = said t.outcome.answer; room = t.room; world = world t.outcome.state rx tx }
told s (Err r) rx tx = looked (refused (number_of r)) (world s rx tx)

-- showing returned this part
abbrev pub handed : List ℕ → World → Did
handed xs w = looked (part xs) w

-- ---- refusals

-- Sizes and refusals, 2: the state does not fit the lent stores
abbrev pub misfit : World → Check
misfit w = check 2 (not (fits w.state (length w.rx) (length w.tx)))

-- the registers of the reading rule: R10, C00 and C01
abbrev pub of_reading_rule : ℕ → Bool
of_reading_rule n = (eqb n 10 || eqb n 16) || eqb n 17

-- No rule changes under a held line, 10: one of them is written while the receive store holds a cell
unfoldable pub held_line : State → ℕ → Bool
held_line s n = ltb 0 s.rx.len && of_reading_rule n

-- what goes out next on the line
abbrev pub next_of : World → Option Next
next_of w = next_out w.state w.tx

-- the table after that, in the order of its numbers: a register write has 5 to 8, which look at the registers alone, and 10, which looks at
-- the receive store; a loop frame has 3 and 4; a take has 12, where an ask would not say this byte
unfoldable pub checks_on : OnState → World → List Check
checks_on (write n v) w = write_checks w.state.regs n v ++ (check 10 (held_line w.state n) ∷ [])
checks_on (loop_frame f) w = check 3 (ltb 2047 f) ∷ check 4 (busy w.state f) ∷ []
checks_on (take_line_byte b) w = check 12 (not (is_next (next_of w) b)) ∷ []
checks_on reset w = []
checks_on (line_byte b) w = []
checks_on line_break w = []
checks_on key w = []
checks_on ask_line_byte w = []

-- Sizes and refusals, the table: create has 1, showing has no number
unfoldable pub checks : Call → World → List Check
checks (create m) w = check 1 (not (sizes_obeyed m (length w.rx) (length w.tx))) ∷ []
checks (show side) w = []
checks (on c) w = misfit w ∷ checks_on c w

-- ---- what a call that is not refused does

abbrev pub done_with : State → Outcome
done_with s = record { state = s; answer = answer.Done }

-- the state, before requests are settled, and the answer
unfoldable pub outcome : OnState → World → Outcome
outcome reset w = done_with (start_state w.state.margin (length w.rx) (length w.tx))
outcome (write n v) w = done_with (after_write w.state n (written w.state.regs n v))
outcome (line_byte b) w = done_with (line_state w.state b)
outcome line_break w = done_with (break_state w.state)
outcome key w = done_with (key_state w.state)
outcome ask_line_byte w = record { state = w.state; answer = out_answer (next_of w) }
outcome (take_line_byte b) w = done_with (gone w.state (next_of w))
outcome (loop_frame f) w = frame_taken w.state w.rx f

-- Status byte, requests: one begins in any call on a state, and a device clear leaves none
unfoldable pub settled_by : OnState → State → State → State
settled_by c s t = cond (of_frame (device_clear s) false c) t (settled s t)

-- the cells of the receive store and the bytes of the transmit store after a call
unfoldable pub rx_after : OnState → World → List ℕ
rx_after (line_byte b) w = line_bytes w.state w.rx b
rx_after line_break w = break_cells w.state w.rx
rx_after reset w = w.rx
rx_after (write n v) w = w.rx
rx_after key w = w.rx
rx_after ask_line_byte w = w.rx
rx_after (take_line_byte b) w = w.rx
rx_after (loop_frame f) w = w.rx

unfoldable pub tx_after : OnState → World → List ℕ
tx_after c w = of_frame (frame_bytes w.state w.tx) w.tx c

-- The request for the room left: a line byte tells that of the receive store, and a loop frame that of the transmit store, both as the call left
-- them; no other call tells any
unfoldable pub room_of : OnState → State → ℕ
room_of (line_byte b) s = room s.rx
room_of (loop_frame f) s = room s.tx
room_of reset s = 0
room_of (write n v) s = 0
room_of line_break s = 0
room_of key s = 0
room_of ask_line_byte s = 0
room_of (take_line_byte b) s = 0

-- a store and what is recorded of it
abbrev pub store_of : Store → World → List ℕ
store_of receive w = w.rx
store_of transmit w = w.tx

abbrev pub ring_of : Store → State → Ring
ring_of receive s = s.rx
ring_of transmit s = s.tx

-- Sizes and refusals, showing: the longest unbroken run from the oldest cell or byte, an empty part for a misfit
unfoldable pub shown : Store → World → List ℕ
shown side w = cond (fits w.state (length w.rx) (length w.tx)) (run (store_of side w) (ring_of side w.state)) []

-- what a call that is not refused did; create has no state before it
unfoldable pub not_refused : Call → World → Did
not_refused (create m) w = did w.state (Ok (done_with (start_state m (length w.rx) (length w.tx)))) w.rx w.tx
not_refused (show side) w = handed (shown side w) w
not_refused (on c) w =
    record {
      said = said (outcome c w).answer;
      room = room_of c (settled_by c w.state (outcome c w).state);
      world = world (settled_by c w.state (outcome c w).state) (rx_after c w) (tx_after c w);
    }

-- Sizes and refusals, below the table: a refusal is its number alone, without any room, and all stays as it was
abbrev pub refusal : ℕ → World → Did
refusal n w = record { said = refused n; room = 0; world = w }

unfoldable pub refused_or : ℕ → Did → World → Did
refused_or n d w = cond (eqb n 0) d (refusal n w)

-- every call, in every world
unfoldable pub step : Call → World → Did
step c w = refused_or (first_refusal (checks c w)) (not_refused c w) w

-- what an ask answers
abbrev pub ask_answer : World → Said
ask_answer w = (step (on ask_line_byte) w).said

-- ---- the promise

-- what every call promises, called in the world w: it did this
abbrev pub Promised : Call → World → Did → Type 0
Promised c w d = d ≡ step c w

-- create is lent two stores and given no state: what stands in its place is the state that it would make, and a law says that any other
-- state there comes to the same
abbrev pub unmade : ℕ → List ℕ → List ℕ → World
unmade m rx tx = world (start_state m (length rx) (length tx)) rx tx
