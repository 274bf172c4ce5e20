-- Bridges that note what happened wrongly: a break, a byte lost, a press of the key.
use Rattle.std.specs.Prelude.{true, false, cond, eqb}
use Rattle.frame.specs.Frame.{control_of}
use Rattle.store.specs.Ring.{empty_ring}
use Rattle.answers.specs.Answers.{done}
use Rattle.state.specs.State.{with_rx, with_line}
use Rattle.bridge.specs.Calls.{reset, line_break, key, Call, World, Did}
use Rattle.laws.specs.Observers.{on_frame, on_line_byte, on_one, clears}
use Rattle.laws.specs.Events.{Event, overrun, pressed, bit_of}
use Rattle.wrong.specs.Changing.{afterwards, is_create}
use Rattle.wrong.specs.Seeing.{with_noted}

-- ---- a break and a press that do more

-- a break empties the receive store
abbrev pub break_empties : Call → World → Did
break_empties = afterwards (λ c w s. on_one line_break (with_rx s (empty_ring s.rx.cap)) s c)

-- a break sets the key's bit too
abbrev pub break_presses : Call → World → Did
break_presses = afterwards (λ c w s. on_one line_break (with_noted pressed true s) s c)

-- a press of the key permits our sending
abbrev pub press_permits : Call → World → Did
press_permits = afterwards (λ c w s. on_one key (with_line s (record { holding = s.line.holding; forbidden = false; stopped = s.line.stopped })) s c)

-- a press of the key forgets that a byte was lost
abbrev pub press_forgets : Call → World → Did
press_forgets = afterwards (λ c w s. on_one key (with_noted overrun false s) s c)

-- ---- what did not happen

-- any command sets the bit
abbrev pub command_sets : Event → Call → World → Did
command_sets e = afterwards (λ c w s. cond (on_frame (λ f. eqb (control_of f) 4) false c) (with_noted e true s) s)

-- any line byte sets the bit, also one that is stored
abbrev pub line_byte_sets : Event → Call → World → Did
line_byte_sets e = afterwards (λ c w s. on_line_byte (λ b. with_noted e true s) s c)

-- ---- what is over

-- a device clear keeps the bit
abbrev pub clear_keeps : Event → Call → World → Did
clear_keeps e = afterwards (λ c w s. cond (clears c w done) (with_noted e (bit_of e w) s) s)

-- a reset keeps the bit
abbrev pub reset_keeps : Event → Call → World → Did
reset_keeps e = afterwards (λ c w s. on_one reset (with_noted e (bit_of e w) s) s c)

-- a create sets the bit
abbrev pub create_sets : Event → Call → World → Did
create_sets e = afterwards (λ c w s. cond (is_create c) (with_noted e true s) s)
