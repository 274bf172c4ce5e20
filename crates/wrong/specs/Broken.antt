-- What it says that a wrong bridge breaks a law.
use Rattle.bridge.specs.Calls.{Call, World, Did}
use Rattle.laws.specs.Bridges.{Machine, Law, TellingLaw, telling, bridge}
use Rattle.refuting.specs.Refuted.{Refuted}

-- that the bridge obeys the law gives never
abbrev pub Breaks : (Call → World → Did) → Law → Type 0
Breaks B L = Refuted (bridge B) L

-- the same of a law that looks at the room told
abbrev pub BreaksTelling : (Call → World → Did) → TellingLaw → Type 0
BreaksTelling B L = Refuted (telling B) L

-- the same of one that keeps more than a world
abbrev pub BreaksAs : Machine → Law → Type 0
BreaksAs M L = Refuted M L
