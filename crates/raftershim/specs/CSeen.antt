-- The C functions as a machine beside the bridge: what is seen of them, and that they obey every law that the bridge obeys.
use Rattle.machine.specs.Machine.{Obeys, ObeysAll}
use Rattle.machine.specs.Opening.{Opens}
use Rattle.boundary.specs.CRuns as boundary
use Rattle.bridge.specs.Calls.{step}
use Rattle.laws.specs.Bridges.{Machine, Law, TellingMachine, TellingLaw, telling, bridge}
use Rattle.laws.specs.Laws.{laws, rooms}
use Rattle.raftershim.specs.Bridge.{bridges}

-- the buffers stand for a world, and the number tells the answer and the room; the types give a block of the one length, cells and bytes
abbrev pub c_telling : TellingMachine
c_telling = boundary.c_telling bridges

-- the same where only the answers are seen
abbrev pub c_functions : Machine
c_functions = boundary.c_functions bridges

-- step by step they do what the bridge does on the world that the buffers stand for, a block that is no state included, and tell the same room
abbrev pub CIsTheBridge : Type 0
CIsTheBridge = Opens c_telling (telling step)

abbrev pub CAnswersAsTheBridge : Type 0
CAnswersAsTheBridge = Opens c_functions (bridge step)

-- so whatever law the bridge obeys, they obey, one of the answers alone or one that looks at the room too
abbrev pub LawsHoldInC : Type 1
LawsHoldInC = (L : Law) → Obeys (bridge step) L → Obeys c_functions L

abbrev pub TellingLawsHoldInC : Type 1
TellingLawsHoldInC = (L : TellingLaw) → Obeys (telling step) L → Obeys c_telling L

-- and they obey all of `laws`: demand 3, and every other rule over calls and runs
abbrev pub AllLawsInC : Type 0
AllLawsInC = ObeysAll c_functions laws

-- and all of `rooms`: the request for the room left
abbrev pub AllRoomsInC : Type 0
AllRoomsInC = ObeysAll c_telling rooms
