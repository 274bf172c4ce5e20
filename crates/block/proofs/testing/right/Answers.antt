use Rattle.block.proofs.Tested.{right_met}
use Rattle.block.proofs.testing.right.Goals as goal

pub returns : goal.returns
returns c =
    right_met c.args.b.now c.three_right-line.ensures
    c.three_right-seen.ensures c.three_right-again.ensures c.three_right.ensures
