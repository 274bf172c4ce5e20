-- What a command does to the talker.
use Rattle.std.specs.Prelude.{cond}
use Rattle.role.specs.declared.Order.{Order}
use Rattle.role.specs.Role.{is_active}
use Rattle.role.specs.Commands.{obeyed_role}
use Rattle.talker.specs.declared.Under.{Under}
use Rattle.talker.specs.declared.Talker.{Talker}
use Rattle.talker.specs.Talker.{no_frame}

-- Frames, commands, what comes first: a talker that was active awaits no return any more
unfoldable pub forgotten : Talker → Under
forgotten t = cond (is_active t.role) no_frame t.under

-- the talker after an order
unfoldable pub obeyed_talker : Talker → Order → Talker
obeyed_talker t o = record { role = obeyed_role t.role o; under = forgotten t }
