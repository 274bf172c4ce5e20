use Rattle.std.proofs.Common.{arith, ap}
use Rattle.bridge.specs.Calls.{Did}
use Rattle.transcript.proofs.Turns.{taken, line_stops, line_goes, line_ends}
use Rattle.transcript.proofs.passing.line_out.Goals as goal

pub returns-in_default : goal.returns-in_default
returns-in_default c = line_stops _ _ _ c.loop-test.true c.in_default.ensures.none c.loop.invariant.text

pub unwrap-requires : goal.unwrap-requires
unwrap-requires c = taken _ _ _ _ _ _ c.in-Some.ensures.some c.take_line_byte.ensures

pub loop-preserved : goal.loop-preserved
loop-preserved c =
    let done = rw c.unwrap.ensures at c.take_line_byte.ensures in
    record {
      text = line_goes _ _ _ _ _ _ c.loop-test.true c.in-Some.ensures.some (ap (λ (d : Did). d.world) done) c.push.ensures.items c.loop.invariant.text;
      size = omega (arith, c.push.ensures.len, c.loop.invariant.size);
    }

pub returns : goal.returns
returns c = line_ends _ _ _ c.loop-test.false c.loop.invariant.text
