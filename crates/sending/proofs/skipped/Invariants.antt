use Rattle.sending.specs.Sending.{Left}
use Rattle.sending.proofs.skipped.Given as goal

abbrev pub invariant-loop-rule : goal.invariant-loop-rule
invariant-loop-rule l = Left l.rule l.s l.initial.q l.q

abbrev pub decreases-loop-rule : goal.decreases-loop-rule
decreases-loop-rule l = l.q.len
