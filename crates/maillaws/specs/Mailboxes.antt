-- Any mailbox, right or wrong, and what a law of it is. A law names no mailbox: it is a statement of what is seen.
use Rattle.std.specs.Prelude.{◌<◌}
use Rattle.machine.specs.Course.{Seen}
use Rattle.machine.specs.Machine as machine
use Rattle.answers.specs.Answers.{Said}
use Rattle.mailbox.specs.Calls.{OnState, reset, loop_frame, bus_command, bus_byte, bus_fetch, bus_clear, bus_lines, Call, create, show, on, World, Did}

-- what takes the nine calls and shows worlds and answers, and a law of it
abbrev pub Machine : Type 1
Machine = machine.Machine World Call Said

abbrev pub Law : Type 1
Law = machine.Law World Call Said

-- all that is seen of one of its calls
abbrev pub Saw : Type 0
Saw = Seen World Call Said

-- a byte from the bus is a byte
abbrev pub ByteOn : OnState → Type 0
ByteOn (bus_byte b mark) = b < 256
ByteOn reset = Unit {0}
ByteOn (loop_frame f) = Unit {0}
ByteOn (bus_command c) = Unit {0}
ByteOn bus_fetch = Unit {0}
ByteOn bus_clear = Unit {0}
ByteOn bus_lines = Unit {0}

abbrev pub ByteCall : Call → Type 0
ByteCall (create a) = Unit {0}
ByteCall (show side) = Unit {0}
ByteCall (on c) = ByteOn c

-- a mailbox is what every call does in every world; the types of the code give bytes from the bus, and of the cells no law asks more than
-- their low nine bits
abbrev pub mailbox : (Call → World → Did) → Machine
mailbox B =
    record {
      Own = World;
      stands = λ w. w;
      answer = λ c w. (B c w).said;
      after = λ c w. (B c w).world;
      Fine = λ w. Unit {0};
      Fair = ByteCall;
    }
