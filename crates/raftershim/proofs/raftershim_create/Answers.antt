use Rattle.boundary.proofs.Closing.{wrong_length}
use Rattle.raftershim.specs.Bridge.{bridges}
use Rattle.raftershim.proofs.Forming.{formed}
use Rattle.raftershim.proofs.Giving.{created_written}
use Rattle.raftershim.proofs.raftershim_create.Goals as goal

pub returns-then-block-ne-LENGTH : goal.returns-then-block-ne-LENGTH
returns-then-block-ne-LENGTH c = wrong_length bridges formed _ _ _ _ _ c.if-block-ne-LENGTH.true c.word_of.ensures

pub returns : goal.returns
returns c = created_written _ _ _ _ _ c.if-block-ne-LENGTH.false c.create-o.ensures _ _ c.finished.ensures
