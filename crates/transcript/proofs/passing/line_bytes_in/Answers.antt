use Rattle.std.proofs.Common.{arith, length, refl}
use Rattle.transcript.proofs.Turns.{line_in_again, line_in_ends}
use Rattle.transcript.proofs.passing.line_bytes_in.Goals as goal

pub loop-b-preserved : goal.loop-b-preserved
loop-b-preserved c = line_in_again _ _ _ _ _ _ c.loop-b-test.true refl c.one_byte_in-t.ensures c.loop-b.invariant

pub returns : goal.returns
returns c = line_in_ends c.args.bytes.now (length c.args.bytes.now) _ _ (omega (arith, c.loop-b-test.false)) c.loop-b.invariant
