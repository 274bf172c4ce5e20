-- Our bridge, that it obeys every law, and what is said of two runs of it.
use Rattle.machine.specs.Machine.{ObeysAll}
use Rattle.bridge.specs.Calls.{step}
use Rattle.laws.specs.Bridges.{Machine, TellingMachine, telling, bridge}
use Rattle.laws.specs.Laws.{laws, rooms}
use Rattle.laws.specs.AsksLeftOut.{AsksLeftOut}

-- the bridge whose calls do what their contracts promise
abbrev pub ours : Machine
ours = bridge step

abbrev pub OursObeysAll : Type 0
OursObeysAll = ObeysAll ours laws

-- the same bridge with the room that it tells seen too, and that it obeys the laws of the room
abbrev pub ours_telling : TellingMachine
ours_telling = telling step

abbrev pub OursObeysRooms : Type 0
OursObeysRooms = ObeysAll ours_telling rooms

-- its runs go as they go without their asks
abbrev pub OursLeavesAsksOut : Type 0
OursLeavesAsksOut = AsksLeftOut ours_telling
