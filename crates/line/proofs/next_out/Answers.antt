use Rattle.line.proofs.Parts.{next_stop, next_go, next_none, next_held, some_held}
use Rattle.line.proofs.next_out.Goals as goal

pub returns-then-holding : goal.returns-then-holding
returns-then-holding c = next_stop _ _ c.if-holding-stopped.true c.if-holding.true

pub returns-else-holding : goal.returns-else-holding
returns-else-holding c = next_go _ _ c.if-holding-stopped.true c.if-holding.false

pub returns-then-s : goal.returns-then-s
returns-then-s c = next_none _ _ c.if-holding-stopped.false c.if-s.true

pub look-requires : goal.look-requires
look-requires c = record { fit = c.requires.ring; k_lt_len = some_held c.args.s c.args.tx.now c.if-s.false }

pub returns : goal.returns
returns c = next_held _ _ _ c.if-holding-stopped.false c.if-s.false (c.look.ensures 0)
