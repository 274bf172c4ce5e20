use Rattle.std.proofs.Common.{◌≤◌, length}
use Rattle.examples.proofs.play.Given as goal

abbrev pub invariant-loop-s : goal.invariant-loop-s
invariant-loop-s g l = length l.rest ≤ length l.script

abbrev pub decreases-loop-s : goal.decreases-loop-s
decreases-loop-s g l = length l.rest
