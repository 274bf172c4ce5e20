use Rattle.mailblock.specs.Packed.{state_at}
use Rattle.mailblock.proofs.reading.hold_at.Goals as goal

pub returns : goal.returns
returns c =
    λ i.
    let h = (state_at c.args.b.now).hold in
    record { enabled = h.enabled; held = h.held; frame = c.read16.ensures i }
