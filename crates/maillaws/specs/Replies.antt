-- What a call can answer, when it refuses, and the frame out.
use Rattle.std.specs.Prelude.{ℕ, ◌≡◌, Bool, true, false, ◌&&◌, ltb}
use Rattle.machine.specs.Machine.{of_calls}
use Rattle.answers.specs.Refusals.{first_refusal}
use Rattle.answers.specs.Refusing.{Refuses}
use Rattle.answers.specs.Answers.{Said, done, none, byte, frame, refused, part, cell, lines}
use Rattle.answers.specs.Answers.{done_or_refused, cell_or_refused, lines_or_refused, frame_or_refused, is_part}
use Rattle.mailbox.specs.Calls.{OnState, reset, loop_frame, bus_command, bus_byte, bus_fetch, bus_clear, bus_lines, Call, create, show, on, checks}
use Rattle.maillaws.specs.Mailboxes.{Law}
use Rattle.maillaws.specs.Sights.{taken, is_frame}

-- the answers of each call
abbrev pub can_answer_on : OnState → Said → Bool
can_answer_on (loop_frame f) x = frame_or_refused x
can_answer_on bus_fetch x = cell_or_refused x
can_answer_on bus_lines x = lines_or_refused x
can_answer_on reset x = done_or_refused x
can_answer_on (bus_command c) x = done_or_refused x
can_answer_on (bus_byte b mark) x = done_or_refused x
can_answer_on bus_clear x = done_or_refused x

abbrev pub can_answer : Call → Said → Bool
can_answer (create a) x = done_or_refused x
can_answer (show side) x = is_part x
can_answer (on c) x = can_answer_on c x

-- every call answers one of these
abbrev pub AnswersSo : Law
AnswersSo = of_calls (λ s. can_answer s.call s.answer ≡ true)

-- every call refuses by the first of its checks that is given, and only then
abbrev pub RefusedExactly : Law
RefusedExactly = of_calls (λ s. Refuses s.answer s.after (first_refusal (checks s.call s.before)) s.before)

-- demand 1: a refused call leaves the state and both stores alone
abbrev pub RefusedStays : Law
RefusedStays = of_calls (λ s. taken s.answer ≡ false → s.after ≡ s.before)

-- one frame out for each that is taken
abbrev pub OneFrameOut : Law
OneFrameOut = of_calls (λ s. (f : ℕ) → s.call ≡ on (loop_frame f) → taken s.answer ≡ true → is_frame s.answer ≡ true)

-- a frame is three control bits above eight data bits, and a cell or the lines are nine bits
abbrev pub is_narrow : Said → Bool
is_narrow (frame k d) = ltb k 8 && ltb d 256
is_narrow (cell n) = ltb n 512
is_narrow (lines n) = ltb n 512
is_narrow (refused n) = true
is_narrow done = true
is_narrow none = true
is_narrow (byte b) = true
is_narrow (part xs) = true

abbrev pub NarrowAnswers : Law
NarrowAnswers = of_calls (λ s. is_narrow s.answer ≡ true)
