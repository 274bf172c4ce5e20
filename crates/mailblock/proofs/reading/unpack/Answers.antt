use Rattle.codec.specs.Blocks.{unpacked}
use Rattle.mailblock.specs.Packed.{state_at}
use Rattle.mailblock.proofs.reading.unpack.Goals as goal

pub returns : goal.returns
unfolding unpacked
returns c =
    λ i. record {
      tobus = c.way_at-tobus.ensures i;
      toloop = c.way_at-toloop.ensures i;
      talker = c.talker_at-loopside.ensures i;
      source = (state_at c.args.b.now).source;
      hold = c.hold_at-hold.ensures i;
      response = c.response_at-response.ensures i;
      bus = c.bus_at-busside.ensures i;
    }
