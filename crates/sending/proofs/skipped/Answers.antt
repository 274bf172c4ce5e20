use borrow.Author.Rules.{rules}
use Rattle.sending.proofs.Chain.{left_start, left_again}
use Rattle.sending.proofs.skipped.Goals as goal

pub loop-rule-init : goal.loop-rule-init
loop-rule-init c = left_start _ _ _ c.requires

pub loop-rule-preserved : goal.loop-rule-preserved
loop-rule-preserved c = left_again _ _ _ _ _ c.requires c.loop-rule.invariant (search rules) c.drop_oldest-q.ensures
