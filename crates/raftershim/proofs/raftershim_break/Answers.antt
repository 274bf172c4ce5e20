use Rattle.bridge.specs.Calls.{line_break}
use Rattle.raftershim.proofs.Giving.{may_finish, finished_written}
use Rattle.raftershim.proofs.raftershim_break.Goals as goal

pub finished-requires : goal.finished-requires
finished-requires c = may_finish line_break _ _ _ _ c.meaning-s.ensures _ _ _ c.take_break-o.ensures

pub returns : goal.returns
returns c = finished_written line_break _ _ _ _ c.meaning-s.ensures _ _ _ c.take_break-o.ensures _ _ c.finished.ensures
