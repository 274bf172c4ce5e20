use lib.Bits.{and_mask}
use Rattle.frame.proofs.Masks.{test_service}
use Rattle.reading.proofs.item_of.Goals as goal

pub returns : goal.returns
returns c = λ i. record { byte = and_mask c.args.cell 8 i; broken = test_service c.args.cell i }
