use Rattle.std.proofs.Common.{arith, ◌∙◌}
use Rattle.transcript.proofs.Turns.{first_at, pair_at, refused_sets, set_again, set_stops, set_ends}
use Rattle.transcript.proofs.passing.set_registers.Goals as goal

pub returns-in_err-t : goal.returns-in_err-t
returns-in_err-t c =
    let there = c.as_chunks.ensures.front in
    refused_sets _ _ _ c.from_residual.ensures.1
    (set_stops _ _ _ _ _ _ c.loop-number.t _ _ _ (omega arith) (c.from.ensures ∙ first_at _ _ (omega arith) there)
    (c.from-in-loop-number.ensures ∙ pair_at _ _ 1 (omega arith) (omega arith) there) c.in_err-t.ensures c.loop-number.invariant)

pub loop-number-preserved : goal.loop-number-preserved
loop-number-preserved c =
    let there = c.as_chunks.ensures.front in
    set_again _ _ _ _ _ _ c.loop-number.t _ _ _ (omega arith) (c.from.ensures ∙ first_at _ _ (omega arith) there)
    (c.from-in-loop-number.ensures ∙ pair_at _ _ 1 (omega arith) (omega arith) there) c.in_ok-t.ensures c.loop-number.invariant

pub returns : goal.returns
returns c = set_ends _ _ _ _ (omega arith) c.loop-number.invariant
