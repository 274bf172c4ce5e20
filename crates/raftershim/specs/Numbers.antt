-- What the number of a C call tells its caller: from the call, the buffers before it and the number answered.
use Rattle.std.specs.Prelude.{ℕ}
use Rattle.answers.specs.Answers.{Said, byte}
use Rattle.boundary.specs.Numbers as boundary
use Rattle.bridge.specs.Calls.{Call}
use Rattle.raftershim.specs.Bridge.{bridges}
use Rattle.raftershim.specs.CCalls.{Lent}

-- the answer that a number tells, by its kind in bits 16 to 23 and its value in bits 0 to 15; the other bits are not looked at
abbrev pub answer_of : ℕ → Said
answer_of n = boundary.answer_of byte n

-- the room that it tells, in bits 32 to 47
abbrev pub room_told : ℕ → ℕ
room_told n = boundary.room_told n

-- the answer of a C call, and the room
abbrev pub c_answer : Call → Lent → Said
c_answer c l = boundary.c_answer bridges c l

abbrev pub c_room : Call → Lent → ℕ
c_room c l = boundary.c_room bridges c l
