use Rattle.mailblock.proofs.Tested.{right_met}
use Rattle.mailblock.proofs.testing.right.Goals as goal

pub returns : goal.returns
returns c =
    right_met c.args.b.now c.three_right-first.ensures c.three_right-second.ensures
    c.three_right-third.ensures c.three_right-fourth.ensures c.three_right.ensures
