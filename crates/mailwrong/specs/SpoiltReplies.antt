-- Mailboxes whose answers are of no kind that there is, or of too many bits.
use Rattle.std.specs.Prelude.{◌+◌, Bool, true, false, cond, ◌&&◌, eqb, leb, get_or}
use Rattle.frame.specs.Frame.{control_of, is_data}
use Rattle.store.specs.Ring.{held}
use Rattle.answers.specs.Answers.{done, none, cell, lines}
use Rattle.mailbox.specs.Calls.{bus_fetch, Call, create, show, on, World, Did, misfit}
use Rattle.maillaws.specs.Sights.{to_bus, ring_of, any, cell_said, on_frame, on_one, loop_active}
use Rattle.mailwrong.specs.Spoiling.{instead, answering, refusing, of_lines}
use Rattle.mailwrong.specs.SpoiltFetches.{takes_from}

-- ---- kinds

-- says that it is done where it has nothing to hand over
abbrev pub done_for_nothing : Call → World → Did
done_for_nothing = answering (λ c w a. on_one bus_fetch (cond (any (cell_said a)) a done) a c)

abbrev is_show : Call → Bool
is_show (show side) = true
is_show (create a) = false
is_show (on c) = false

-- refuses to show a way where the state does not fit, and gives no empty part
abbrev pub show_refused : Call → World → Did
show_refused = instead (λ c w. is_show c && (misfit w).given) (refusing 2)

-- takes commands off the loop and answers no frame
abbrev pub takes_commands_off : Call → World → Did
takes_commands_off = answering (λ c w a. on_frame (λ f. cond (eqb (control_of f) 4) done a) a c)

-- takes its own frames off the loop when they come back and answers no frame
abbrev pub takes_returns_off : Call → World → Did
takes_returns_off = answering (λ c w a. on_frame (λ f. cond (is_data f && loop_active w) none a) a c)

-- ---- bits

-- hands over the bits of a cell that stand above its end mark
abbrev pub gives_high_bits : Call → World → Did
gives_high_bits = answering (λ c w a. cond (takes_from to_bus c w a) (cell (get_or (held w.tobus (ring_of to_bus w)) 0 0)) a)

-- shows a service request on the bus as 512 in the place of 256
abbrev pub requests_at512 : Call → World → Did
requests_at512 = answering (λ c w a. of_lines (λ n. cond (leb 256 n) (lines (n + 256)) (lines n)) a)
