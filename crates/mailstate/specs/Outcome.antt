-- What a call on such a state answers, and the state after it.
use Rattle.answers.specs.declared.Outcome as answers
use Rattle.mailstate.specs.declared.State.{State}

abbrev pub Outcome : Type 0
Outcome = answers.Outcome State
