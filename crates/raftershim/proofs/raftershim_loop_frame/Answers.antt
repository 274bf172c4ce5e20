use mathlib.Core.Path.{refl}
use Rattle.bridge.specs.Calls.{loop_frame}
use Rattle.raftershim.proofs.Giving.{may_give, outcome_written, refusal_written}
use Rattle.raftershim.proofs.raftershim_loop_frame.Goals as goal

pub written-requires : goal.written-requires
written-requires c = may_give (loop_frame _) _ _ _ _ c.meaning-s.ensures _ _ _ _ c.in-Ok.ensures

pub returns-in-Ok : goal.returns-in-Ok
returns-in-Ok c = outcome_written (loop_frame _) _ _ _ _ c.meaning-s.ensures _ _ _ _ c.in-Ok.ensures _ _ c.written.ensures

pub returns-in-Err : goal.returns-in-Err
returns-in-Err c = refusal_written (loop_frame _) _ _ _ _ c.meaning-s.ensures _ _ _ c.in-Err.ensures _ _ (c.word_of.ensures, refl)
