-- Bridges whose refusals or answers are wrong.
use Rattle.std.specs.Prelude.{true, false, cond, ◌&&◌, eqb}
use Rattle.frame.specs.Frame.{control_of, is_data}
use Rattle.answers.specs.Answers.{done, is_byte}
use Rattle.loopside.specs.Frames.{adds_bytes}
use Rattle.bridge.specs.Calls.{ask_line_byte, Call, World, Did, misfit, not_refused, step}
use Rattle.laws.specs.Observers.{on_frame, on_write, on_one}
use Rattle.wrong.specs.Changing.{instead, answering, answering_frame, refusing, is_show}

-- ---- answers

-- answers that it is done where no line byte is next
abbrev pub done_for_none : Call → World → Did
done_for_none = answering (λ c w a. on_one ask_line_byte (cond (is_byte a) a done) a c)

-- refuses to show a store where the state does not fit, and gives no empty part
abbrev pub refuses_to_show : Call → World → Did
refuses_to_show = instead (λ c w. is_show c && (misfit w).given) (refusing 2)

-- takes a command off the loop
abbrev pub swallows_commands : Call → World → Did
swallows_commands = answering_frame (λ w f. eqb (control_of f) 4) (λ w f a. done)

-- takes the data that it stores off the loop
abbrev pub swallows_stored : Call → World → Did
swallows_stored = answering_frame (λ w f. adds_bytes w.state f) (λ w f a. done)

-- ---- refusals

-- is always busy: every data frame is refused 4
abbrev pub always_busy : Call → World → Did
always_busy = instead (λ c w. on_frame is_data false c) (refusing 4)

-- refuses every call
abbrev pub always_refusing : Call → World → Did
always_refusing = refusing 2

-- does what it refuses
abbrev does_all_the_same : Call → World → Did
does_all_the_same c w = record { said = (step c w).said; room = (step c w).room; world = (not_refused c w).world }

-- refuses a register write and writes the register all the same
abbrev pub refuses_and_writes : Call → World → Did
refuses_and_writes = instead (λ c w. on_write (λ n v. true) false c) does_all_the_same

-- refuses a data frame as busy and stores what there is room for
abbrev pub busy_and_stores : Call → World → Did
busy_and_stores = instead (λ c w. on_frame is_data false c) does_all_the_same
