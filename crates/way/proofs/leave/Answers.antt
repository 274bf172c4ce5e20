use Rattle.way.proofs.Parts.{left_more}
use Rattle.way.proofs.leave.Goals as goal

pub returns-else-w-eq0 : goal.returns-else-w-eq0
returns-else-w-eq0 c = left_more _ _ _ _ _ _ c.put.ensures c.unwrap_or-q.ensures c.if-w-eq0.false
