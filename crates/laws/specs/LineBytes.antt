-- Loop to line over a run, register writes included.
use Rattle.std.specs.Prelude.{ℕ}
use Rattle.machine.specs.Turns.{Reading, Kept, Since}
use Rattle.answers.specs.Answers.{Said}
use Rattle.bridge.specs.Calls.{Call, World}
use Rattle.laws.specs.Observers.{added, handed_out, empties}
use Rattle.laws.specs.Bridges.{Law}
use Rattle.laws.specs.Worlds.{held_for_line}

-- the transmit side: line bytes are left by the loop and held, and handed out as they are
abbrev pub loop_to_line : Reading World Call Said ℕ ℕ
loop_to_line = record { accepted = added; sent = handed_out; held = held_for_line; reads = λ w l. l }

-- whatever was held: the line bytes handed out in order, our own go and stop aside, followed by those held
abbrev pub LineKept : Law
LineKept = Kept loop_to_line empties

-- Loop to line, last: what was handed out since the stores were emptied, without our own go and stop, and then what is held, is what the
-- frames added
abbrev pub LineSince : Law
LineSince = Since loop_to_line empties empties
