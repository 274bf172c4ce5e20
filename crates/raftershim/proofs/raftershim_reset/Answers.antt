use Rattle.bridge.specs.Calls.{reset}
use Rattle.raftershim.proofs.Giving.{may_finish, finished_written}
use Rattle.raftershim.proofs.raftershim_reset.Goals as goal

pub finished-requires : goal.finished-requires
finished-requires c = may_finish reset _ _ _ _ c.meaning-s.ensures _ _ _ c.reset-o.ensures

pub returns : goal.returns
returns c = finished_written reset _ _ _ _ c.meaning-s.ensures _ _ _ c.reset-o.ensures _ _ c.finished.ensures
