-- A mailbox's state with one of its parts changed.
use Rattle.std.specs.Prelude.{ℕ, Bool, false}
use Rattle.way.specs.declared.Way.{Way}
use Rattle.talker.specs.declared.Talker.{Talker}
use Rattle.polls.specs.declared.Response.{Response}
use Rattle.bus.specs.declared.Bus.{Bus}
use Rattle.mailstate.specs.declared.State.{State}
use Rattle.mailstate.specs.declared.Hold.{Hold}

-- the state of these parts
abbrev state_of : Way → Way → Talker → ℕ → Hold → Response → Bus → State
state_of tobus toloop talker source hold response bus =
    record { tobus = tobus; toloop = toloop; talker = talker; source = source; hold = hold; response = response; bus = bus }

abbrev pub with_to_bus : State → Way → State
with_to_bus s x = state_of x s.toloop s.talker s.source s.hold s.response s.bus

abbrev pub with_to_loop : State → Way → State
with_to_loop s x = state_of s.tobus x s.talker s.source s.hold s.response s.bus

-- a talker, and the source of what it sends
abbrev pub with_talker : State → Talker → State
with_talker s x = state_of s.tobus s.toloop x s.source s.hold s.response s.bus

abbrev pub with_source : State → ℕ → State
with_source s x = state_of s.tobus s.toloop s.talker x s.hold s.response s.bus

abbrev pub with_hold : State → Hold → State
with_hold s x = state_of s.tobus s.toloop s.talker s.source x s.response s.bus

abbrev pub with_response : State → Response → State
with_response s x = state_of s.tobus s.toloop s.talker s.source s.hold x s.bus

abbrev pub with_bus : State → Bus → State
with_bus s x = state_of s.tobus s.toloop s.talker s.source s.hold s.response x

-- nothing is held back, and whether a listener says that it is not ready
abbrev pub no_hold : Bool → Hold
no_hold enabled = record { enabled = enabled; held = false; frame = 0 }
