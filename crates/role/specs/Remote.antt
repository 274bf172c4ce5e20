-- The remote flags, apart from the role: their start, and what an order does to them.
use Rattle.std.specs.Prelude.{true, false, ◌||◌}
use Rattle.role.specs.declared.remote.Remote.{Remote}
use Rattle.role.specs.declared.Order.{Order}
use Rattle.role.specs.declared.Order.TheVariants.{Unlisten, Listen, Untalk, Talk, Clear, Deselect, Enable, Disable, Local, Unassign, Nothing}

-- neither enabled nor remote
abbrev pub start_remote : Remote
start_remote = record { enabled = false; remote = false }

unfoldable pub obeyed_remote : Remote → Order → Remote
-- Frames, commands, 32+n, n=a: remote too, where that is enabled
obeyed_remote m Listen = record { enabled = m.enabled; remote = m.remote || m.enabled }
-- Frames, commands, 146: from now on a listen address makes remote
obeyed_remote m Enable = record { enabled = true; remote = m.remote }
-- Frames, commands, 147: both flags off
obeyed_remote m Disable = record { enabled = false; remote = false }
-- Frames, commands, 1: a listener is remote no more, and stays enabled
obeyed_remote m Local = record { enabled = m.enabled; remote = false }
-- Frames, commands, all others, as far as the remote flags go
obeyed_remote m Unlisten = m
obeyed_remote m Untalk = m
obeyed_remote m Talk = m
obeyed_remote m Clear = m
obeyed_remote m Deselect = m
obeyed_remote m Unassign = m
obeyed_remote m Nothing = m
