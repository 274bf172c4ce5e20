-- What holds of every C call of the bridge, and of every run of C calls: the laws of the C functions of any product, said of this one, and
-- what its asks leave.
use Rattle.std.specs.Prelude.{◌≡◌}
use Rattle.boundary.specs.Numbers as numbers
use Rattle.boundary.specs.CLaws as boundary
use Rattle.bridge.specs.Calls.{ask_line_byte, on}
use Rattle.laws.specs.AsksLeftOut.{AsksLeftOut}
use Rattle.boundary.specs.CRuns.{c_telling}
use Rattle.raftershim.specs.Bridge.{bridges}
use Rattle.raftershim.specs.CCalls.{Lent, c_step}

-- ---- the answer

-- What a reader may hold us to, first: two results that a C function's promise allows are equal, the number and every number in the three
-- buffers. It is said of `CPromised`, which the contracts of the C functions cite.
abbrev pub OneResultInC : Type 0
OneResultInC = boundary.OneResultInC bridges

-- the number tells the kind, the value and the room, and the reserved bits, 24 to 31 and 48 to 63, are 0
abbrev pub WordTells : Type 0
WordTells = numbers.WordTells

abbrev pub ReservedZero : Type 0
ReservedZero = numbers.ReservedZero

-- where no room is told it is the number of the answer alone
abbrev pub NoRoomAlone : Type 0
NoRoomAlone = numbers.NoRoomAlone

-- Sizes and refusals, showing: from the oldest cell or byte on, as far as they stand together, as a part of the buffer of that store
abbrev pub ShownPlace : Type 0
ShownPlace = boundary.ShownPlace bridges

-- Sizes and refusals, showing: of any block that is no fitting state an empty part, which is the number 0, and nothing is written
abbrev pub MisfitShowsNothing : Type 0
MisfitShowsNothing = boundary.MisfitShowsNothing bridges

-- Forms, answers: the number of a C call tells its whole answer
abbrev pub AnswersTold : Type 0
AnswersTold = boundary.AnswersTold bridges

-- The request for the room left: and the room that the call tells beside it
abbrev pub RoomsTold : Type 0
RoomsTold = boundary.RoomsTold bridges

-- ---- refusals

-- What is built, the C functions: refusal 2 for a block that is no fitting state, and nothing is written; a block of another length is no
-- state
abbrev pub MisfitRefused : Type 0
MisfitRefused = boundary.MisfitRefused bridges

-- Sizes and refusals, the table, create: the length of the block
abbrev pub WrongBlockRefused : Type 0
WrongBlockRefused = boundary.WrongBlockRefused bridges

-- Sizes and refusals, below the table: the number alone, and state, stores and block stay; of every C call whose number tells a refusal,
-- whatever the block is and how long it is
abbrev pub RefusalKeepsAll : Type 0
RefusalKeepsAll = boundary.RefusalKeepsAll bridges

-- the same with the whole number, and so without any room
abbrev pub RefusalAlone : Type 0
RefusalAlone = boundary.RefusalAlone bridges

-- ---- asks

-- Ask, then take: the C function that asks leaves every byte of the block and of both stores, whatever they are
abbrev pub AskWritesNothing : Type 0
AskWritesNothing = (l : Lent) → (c_step (on ask_line_byte) l).lent ≡ l

-- and a run of C calls goes as it goes without its asks, the room told included
abbrev pub AsksLeftOutInC : Type 0
AsksLeftOutInC = AsksLeftOut (c_telling bridges)

-- ---- every C function is the call of its name

-- What is built, the lent block: a C call on the block of a state answers the number of what the call answers, and leaves the block of the
-- state that the call leaves; and so does a run of them
abbrev pub SameCall : Type 0
SameCall = boundary.SameCall bridges

abbrev pub SameEnd : Type 0
SameEnd = boundary.SameEnd bridges

abbrev pub SameWords : Type 0
SameWords = boundary.SameWords bridges

-- the same of any block of the one length, a state or not
abbrev pub CallMeans : Type 0
CallMeans = boundary.CallMeans bridges

abbrev pub RunsMean : Type 0
RunsMean = boundary.RunsMean bridges
