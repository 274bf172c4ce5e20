-- What is built, the C functions: numbers and buffers of bytes and of cells, the state in a lent block of one length, and refusal 2 for a block that is no
-- fitting state; showing alone gets no refusal.
use Rattle.std.specs.Prelude.{ℕ, List}
use Rattle.answers.specs.Answers.{Said}
use Rattle.answers.specs.Word.{word_with}
use Rattle.boundary.specs.CCalls as boundary
use Rattle.state.specs.declared.State.{State}
use Rattle.bridge.specs.Calls.{Call, World, Did}
use Rattle.raftershim.specs.Bridge.{bridges}

-- the buffers lent at every call: the block, the receive store and the transmit store
abbrev pub Lent : Type 0
Lent = boundary.Lent

abbrev pub lent : List ℕ → List ℕ → List ℕ → Lent
lent b rx tx = boundary.lent b rx tx

-- what a C call did: the number that it answered, and the buffers after it
abbrev pub CDid : Type 0
CDid = boundary.CDid

abbrev pub c_did : ℕ → List ℕ → List ℕ → List ℕ → CDid
c_did n b rx tx = boundary.c_did n b rx tx

-- the world that lent buffers stand for
abbrev pub opened : Lent → World
opened l = boundary.opened bridges l

-- the block after a call: a refusal leaves it as it was
abbrev pub block_after : List ℕ → Said → State → List ℕ
block_after b d s = boundary.block_after bridges b d s

-- what a call of the bridge did, for a caller that lent these buffers
abbrev pub closed : Lent → Did → CDid
closed l d = boundary.closed bridges l (word_with d.said d.room) d.said (bridges.apart d.world)

-- Sizes and refusals, the table, create: a size, or the length of the block
abbrev pub created_for : Lent → Did → CDid
created_for l d = boundary.created_for bridges l d.said (bridges.apart d.world)

-- every C function is the call of its name on the world that the buffers stand for
abbrev pub c_step : Call → Lent → CDid
c_step c l = boundary.c_step bridges c l

-- what every C function promises, lent these buffers: it did this
abbrev pub CPromised : Call → Lent → CDid → Type 0
CPromised c l x = boundary.CPromised bridges c l x
