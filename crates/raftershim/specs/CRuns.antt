-- Runs of C calls beside runs of the bridge's calls.
use Rattle.std.specs.Prelude.{ℕ, List}
use Rattle.boundary.specs.CRuns as boundary
use Rattle.bridge.specs.Calls.{Call, World}
use Rattle.raftershim.specs.Bridge.{bridges}
use Rattle.raftershim.specs.CCalls.{Lent}

-- the buffers that a world is lent in
abbrev pub packed_world : World → Lent
packed_world w = boundary.packed_world bridges w

-- the numbers that the answers of a run of the bridge's calls are, and those that the same run of C calls answers
abbrev pub words : List Call → World → List ℕ
words cs w = boundary.words bridges cs w

abbrev pub c_words : List Call → Lent → List ℕ
c_words cs l = boundary.c_words bridges cs l

-- what the types of the code give of every world: numbers that fit their places
abbrev pub Typed : World → Type 0
Typed w = boundary.Typed bridges w

-- what the types of the C functions give of lent buffers: a receive store of cells, and bytes in the other two
abbrev pub Lendable : Lent → Type 0
Lendable l = boundary.Lendable bridges l

-- and a lent block of the one length, a state or not
abbrev pub Whole : Lent → Type 0
Whole l = boundary.Whole bridges l
