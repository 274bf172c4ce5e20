-- Any bridge, right or wrong, and what a law of it is. A law names no bridge: it is a statement of what is seen.
use Rattle.std.specs.Prelude.{◌<◌}
use Rattle.machine.specs.Course.{Seen}
use Rattle.machine.specs.Machine as machine
use Rattle.machine.specs.Machine.{narrowed}
use Rattle.answers.specs.Answers.{Said, Answered}
use Rattle.bridge.specs.Calls.{OnState, reset, write, line_byte, line_break, key, ask_line_byte, take_line_byte, loop_frame, Call, create, show, on, World, Did}

-- what takes the calls and shows worlds and answers, and a law of it
abbrev pub Machine : Type 1
Machine = machine.Machine World Call Said

abbrev pub Law : Type 1
Law = machine.Law World Call Said

-- the same where the room that is told beside an answer is seen too
abbrev pub TellingMachine : Type 1
TellingMachine = machine.Machine World Call Answered

abbrev pub TellingLaw : Type 1
TellingLaw = machine.Law World Call Answered

-- all that is seen of one of its calls
abbrev pub Saw : Type 0
Saw = Seen World Call Said

-- a byte from the line is a byte, and so is one that is named to be taken
abbrev pub ByteOn : OnState → Type 0
ByteOn (line_byte b) = b < 256
ByteOn (take_line_byte b) = b < 256
ByteOn reset = Unit {0}
ByteOn (write n v) = Unit {0}
ByteOn line_break = Unit {0}
ByteOn key = Unit {0}
ByteOn ask_line_byte = Unit {0}
ByteOn (loop_frame f) = Unit {0}

abbrev pub ByteCall : Call → Type 0
ByteCall (create m) = Unit {0}
ByteCall (show side) = Unit {0}
ByteCall (on c) = ByteOn c

-- a bridge is what every call does in every world; the types of the code give the bytes, and of the stores no law asks any
abbrev pub telling : (Call → World → Did) → TellingMachine
telling B =
    record {
      Own = World;
      stands = λ w. w;
      answer = λ c w. record { said = (B c w).said; room = (B c w).room };
      after = λ c w. (B c w).world;
      Fine = λ w. Unit {0};
      Fair = ByteCall;
    }

-- the answers without the room
abbrev pub bridge : (Call → World → Did) → Machine
bridge B = narrowed (λ a. a.said) (telling B)
