use Rattle.codec.proofs.Copied.{packed_both}
use Rattle.block.specs.Packed.{layout}
use Rattle.block.proofs.pack.Goals as goal

pub returns : goal.returns
returns c = packed_both layout 27 _ _ _ _ c.packed_head-head.ensures c.packed_tail-tail.ensures c.write_both.ensures
