use mathlib.Core.Path.{refl, ap}
use mathlib.Core.List.{◌++◌}
use lib.ListN.{length, drop}
use Rattle.codec.proofs.Copied.{both_copied}
use Rattle.codec.proofs.write_both.Goals as goal

pub returns : goal.returns
returns c =
    let h = c.args.head.now in
    both_copied (length h) h c.args.tail.now c.args.block.now _ _ refl c.requires
    (ap (λ x. x ++ drop (length h) c.args.block.now) c.copy_from_slice.ensures.after)
    c.copy_from_slice-2.ensures.after
