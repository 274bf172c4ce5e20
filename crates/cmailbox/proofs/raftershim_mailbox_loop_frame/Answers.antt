use mathlib.Core.Path.{refl}
use Rattle.std.specs.Prelude.{Ok, Err}
use Rattle.mailbox.specs.Calls.{loop_frame}
use Rattle.cmailbox.proofs.Finishing.{may_finish, finished_met}
use Rattle.cmailbox.proofs.raftershim_mailbox_loop_frame.Goals as goal

pub written-requires : goal.written-requires
written-requires c = may_finish (loop_frame _) _ _ _ _ _ _ c.meaning-s.ensures (Ok c.in-Ok.given) c.in-Ok.ensures

pub returns-in-Ok : goal.returns-in-Ok
returns-in-Ok c = finished_met (loop_frame _) _ _ _ _ _ _ c.meaning-s.ensures (Ok c.in-Ok.given) c.in-Ok.ensures _ _ c.written.ensures

pub returns-in-Err : goal.returns-in-Err
returns-in-Err c = finished_met (loop_frame _) _ _ _ _ _ _ c.meaning-s.ensures (Err c.in-Err.refusal) c.in-Err.ensures _ _ (c.word_of.ensures, refl)
