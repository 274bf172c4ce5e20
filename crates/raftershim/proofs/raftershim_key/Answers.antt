use Rattle.bridge.specs.Calls.{key}
use Rattle.raftershim.proofs.Giving.{may_finish, finished_written}
use Rattle.raftershim.proofs.raftershim_key.Goals as goal

pub finished-requires : goal.finished-requires
finished-requires c = may_finish key _ _ _ _ c.meaning-s.ensures _ _ _ c.take_key-o.ensures

pub returns : goal.returns
returns c = finished_written key _ _ _ _ c.meaning-s.ensures _ _ _ c.take_key-o.ensures _ _ c.finished.ensures
