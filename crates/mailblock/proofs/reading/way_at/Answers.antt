use Rattle.mailblock.specs.Packed.{way_at}
use Rattle.mailblock.proofs.reading.way_at.Goals as goal

pub returns : goal.returns
returns c =
    λ i.
    let args = c.args in
    record { ring = c.ring_at.ensures i; news = (way_at args.b.now args.i args.j).news }
