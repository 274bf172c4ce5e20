use borrow.Author.Rules.{rules}
use Rattle.bridge.specs.Calls.{held_line}
use Rattle.bridge.proofs.held_line.Goals as goal

-- `bridge::held_line` meets its contract: it is the definition.

pub returns : goal.returns
unfolding held_line
returns c = search rules
