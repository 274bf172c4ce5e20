use mathlib.Core.Path.{refl}
use Rattle.bridge.specs.Calls.{line_byte}
use Rattle.raftershim.proofs.Giving.{may_give, outcome_written, refusal_written}
use Rattle.raftershim.proofs.raftershim_line_byte.Goals as goal

pub written-requires : goal.written-requires
written-requires c = may_give (line_byte _) _ _ _ _ c.meaning-s.ensures _ _ _ _ c.in-Ok.ensures

pub returns-in-Ok : goal.returns-in-Ok
returns-in-Ok c = outcome_written (line_byte _) _ _ _ _ c.meaning-s.ensures _ _ _ _ c.in-Ok.ensures _ _ c.written.ensures

pub returns-in-Err : goal.returns-in-Err
returns-in-Err c = refusal_written (line_byte _) _ _ _ _ c.meaning-s.ensures _ _ _ c.in-Err.ensures _ _ (c.word_of.ensures, refl)
