-- The checks of every call stand in the order of their numbers. Assumes nothing.
use mathlib.Core.Path.{◌≡◌, refl}
use mathlib.Core.Bool.{true}
use Rattle.answers.specs.Refusals.{rising}
use Rattle.registers.specs.Writing.{write_checks}
use Rattle.bridge.specs.Calls.{OnState, reset, write, line_byte, line_break, key, ask_line_byte, take_line_byte, loop_frame, create, show, on, World}
use Rattle.bridge.specs.Calls.{checks_on, checks}
use Rattle.laws.specs.Order.{ChecksRise}

rise_on : (c : OnState) (w : World) → rising 2 (checks_on c w) ≡ true
unfolding checks_on write_checks
rise_on reset w = refl
rise_on (write n v) w = refl
rise_on (line_byte b) w = refl
rise_on line_break w = refl
rise_on key w = refl
rise_on ask_line_byte w = refl
rise_on (take_line_byte b) w = refl
rise_on (loop_frame f) w = refl

pub checks_rise : ChecksRise
unfolding checks
checks_rise (create m) w = refl
checks_rise (show side) w = refl
checks_rise (on c) w = rise_on c w
