-- The request for the room left: what is told beside the answer to a line byte and to a loop frame.
use Rattle.std.specs.Prelude.{ℕ, ◌+◌, ◌-◌, ◌≤◌, ◌≡◌, Bool, true, false, cond, ◌&&◌, List, [], length}
use Rattle.machine.specs.Course.{of, all}
use Rattle.machine.specs.Machine.{of_calls, of_since, of_between}
use Rattle.answers.specs.Answers.{Said, refused, Answered}
use Rattle.frame.specs.Frame.{is_data}
use Rattle.bridge.specs.Calls.{loop_frame, Call, on, World}
use Rattle.laws.specs.Bridges.{TellingLaw}
use Rattle.laws.specs.Observers.{taken, on_line_byte, on_frame, arrived, lost, adds_for, added}
use Rattle.laws.specs.Worlds.{held_cells, held_for_line}

-- how many places of a store hold nothing
abbrev pub free : List ℕ → List ℕ → ℕ
free store held = length store - length held

-- the room there is: of the receive store for a line byte, of the transmit store for a loop frame; any other call tells none
abbrev pub room_there : World → Call → ℕ
room_there v c = on_line_byte (λ b. free v.rx (held_cells v)) (on_frame (λ f. free v.tx (held_for_line v)) 0 c) c

-- the room told is the room there is after the call, whatever became of the byte and whatever the frame is; a refusal is its number alone
abbrev pub RoomTold : TellingLaw
RoomTold = of_calls (λ s. s.answer.room ≡ cond (taken s.answer.said) (room_there s.after s.call) 0)

-- what is seen of an answer, whatever room it tells
abbrev pub of_said : {X : Type 0} → (Call → World → Said → X) → Call → World → Answered → X
of_said see c w a = see c w a.said

-- a byte from the line comes in
abbrev pub line_byte_in : Call → World → Said → Bool
line_byte_in c w a = on_line_byte (λ b. taken a) false c

-- what is told is there: after a line byte that told n, none of the next n data bytes from the line is lost, whatever else is called
abbrev pub RoomHolds : TellingLaw
RoomHolds =
    of_since
    (λ s ss. of (of_said line_byte_in) s ≡ true → length (all (of_said arrived) ss) ≤ s.answer.room → all (of_said lost) ss ≡ [])

-- what a frame adds to the transmit store if it is taken
abbrev pub would_add : World → ℕ → List ℕ
would_add w f = cond (is_data f && w.state.talker.role.listener) (adds_for w f) []

-- a loop frame is taken
abbrev pub takes_frame : Call → World → Said → Bool
takes_frame c w a = on_frame (λ f. taken a) false c

-- the same of the transmit store: after a frame that told n, a later frame is not busy if it and the frames between add no more than n bytes in all
abbrev pub RoomTakes : TellingLaw
RoomTakes =
    of_between
    (λ s ss d. (f : ℕ) → d.call ≡ on (loop_frame f) → of (of_said takes_frame) s ≡ true →
    length (all (of_said added) ss) + length (would_add d.before f) ≤ s.answer.room → d.answer.said ≡ refused 4 → ⊥)
