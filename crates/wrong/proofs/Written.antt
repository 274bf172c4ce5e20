-- A run of a bridge that is written out, call by call: the checker runs one call at a time on a world that is given. Assumes nothing.
use Prim.Native.Nat.{ℕ}
use mathlib.Core.List.{List}
use Rattle.answers.specs.Answers.{Said, Answered, done}
use Rattle.bridge.specs.Calls.{OnState, line_byte, Call, on, World, Did, room_of}
use Rattle.laws.specs.Bridges.{Saw, ByteCall}
use Rattle.refuting.specs.WrittenOut as out

-- a bridge as the kind of machine that it is
abbrev pub bridges : out.Kind World Call Said Did
bridges = record { said = λ d. d.said; left = λ d. d.world; Fine = λ w. Unit {0}; Fair = ByteCall }

-- the same with the room that it tells
abbrev pub telling_bridges : out.Kind World Call Answered Did
telling_bridges = record { said = λ d. record { said = d.said; room = d.room }; left = λ d. d.world; Fine = λ w. Unit {0}; Fair = ByteCall }

-- a call, and what it does
abbrev pub Turn : Type 0
Turn = out.Turn Call Did

abbrev pub turn : Call → Did → Turn
turn c d = out.turn c d

-- a call that answers so, tells this room and leaves this world; and one that tells the room of what it leaves
abbrev pub tells : OnState → Said → ℕ → World → Turn
tells c a n w = turn (on c) (record { said = a; room = n; world = w })

abbrev pub leaves : OnState → Said → World → Turn
leaves c a w = tells c a (room_of c w.state) w

-- a line byte comes in, and this is left
abbrev pub comes_in : ℕ → World → Turn
comes_in b w = leaves (line_byte b) done w

-- a bridge does what it does
abbrev pub does : (Call → World → Did) → Call → World → Turn
does B c w = turn c (B c w)

abbrev pub called : Turn → Call
called t = t.call

-- this bridge does so, from the world w
abbrev pub Does : (Call → World → Did) → World → List Turn → Type 0
Does = out.Does bridges

-- what is seen of it, and the world that it leaves
abbrev pub saw : Call → World → Did → Saw
saw = out.saw bridges

abbrev pub seen_so : World → List Turn → List Saw
seen_so = out.seen_so bridges

abbrev pub left_so : World → List Turn → World
left_so = out.left_so bridges
