use Rattle.mailblock.specs.Packed.{state_at}
use Rattle.mailblock.proofs.reading.talker_at.Goals as goal

pub returns : goal.returns
returns c =
    λ i.
    let t = (state_at c.args.b.now).talker in
    record { role = t.role; under = record { frame = c.read16.ensures i; finishing = t.under.finishing } }
