use Rattle.bridge.specs.Calls.{take_line_byte}
use Rattle.raftershim.proofs.Giving.{may_finish, finished_written}
use Rattle.raftershim.proofs.raftershim_take_line_byte.Goals as goal

pub finished-requires : goal.finished-requires
finished-requires c = may_finish (take_line_byte _) _ _ _ _ c.meaning-s.ensures _ _ _ c.take_line_byte-o.ensures

pub returns : goal.returns
returns c = finished_written (take_line_byte _) _ _ _ _ c.meaning-s.ensures _ _ _ c.take_line_byte-o.ensures _ _ c.finished.ensures
