use Rattle.bridge.specs.Calls.{write}
use Rattle.raftershim.proofs.Giving.{may_finish, finished_written}
use Rattle.raftershim.proofs.raftershim_write_register.Goals as goal

pub finished-requires : goal.finished-requires
finished-requires c = may_finish (write _ _) _ _ _ _ c.meaning-s.ensures _ _ _ c.write_register-o.ensures

pub returns : goal.returns
returns c = finished_written (write _ _) _ _ _ _ c.meaning-s.ensures _ _ _ c.write_register-o.ensures _ _ c.finished.ensures
