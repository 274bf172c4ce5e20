use Rattle.codec.proofs.Copied.{packed_both}
use Rattle.mailblock.specs.Packed.{layout}
use Rattle.mailblock.proofs.pack.Goals as goal

pub returns : goal.returns
returns c = packed_both layout 17 _ _ _ _ c.packed_head-head.ensures c.packed_tail-tail.ensures c.write_both.ensures
