-- What a call can answer, and when it refuses.
use Rattle.std.specs.Prelude.{◌≡◌, Bool, true, cond}
use Rattle.answers.specs.Refusals.{first_refusal}
use Rattle.machine.specs.Machine.{of_calls}
use Rattle.answers.specs.Answers.{Said, done_or_refused, byte_or_refused, frame_or_refused, is_part}
use Rattle.answers.specs.Refusing.{Refuses}
use Rattle.bridge.specs.Calls.{ask_line_byte, Call, create, show, on, of_frame, is, checks}
use Rattle.laws.specs.Bridges.{Law}

-- the answers of each call
abbrev pub can_answer : Call → Said → Bool
can_answer (create m) x = done_or_refused x
can_answer (show side) x = is_part x
can_answer (on c) x = cond (is ask_line_byte c) (byte_or_refused x) (of_frame (λ f. frame_or_refused x) (done_or_refused x) c)

-- every call answers one of these
abbrev pub AnswersSo : Law
AnswersSo = of_calls (λ s. can_answer s.call s.answer ≡ true)

-- every call refuses by the first of its checks that is given, and only then
abbrev pub RefusedExactly : Law
RefusedExactly = of_calls (λ s. Refuses s.answer s.after (first_refusal (checks s.call s.before)) s.before)
