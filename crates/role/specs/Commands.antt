-- What an order does to the role: the right sides of the paper's list of commands. What it does to the remote flags is in `Remote`.
use Rattle.std.specs.Prelude.{ℕ, true, false, cond}
use Rattle.role.specs.declared.Role.{Role}
use Rattle.role.specs.declared.Order.{Order}
use Rattle.role.specs.declared.Order.TheVariants.{Unlisten, Listen, Untalk, Talk, Clear, Deselect, Enable, Disable, Local, Unassign, Nothing}
use Rattle.role.specs.Role.{unassigned, idle, addressed, is_active, with_address, with_phase, with_listener}
use Rattle.role.specs.Orders.{order_of}

-- Frames, commands, what comes first: no talker stays active
unfoldable pub merely_addressed : Role → Role
merely_addressed r = with_phase r (cond (is_active r) addressed r.phase)

unfoldable pub changed_role : Role → Order → Role
-- Frames, commands, 32+n, n=31: listener no more
changed_role r Unlisten = with_listener r false
-- Frames, commands, 32+n, n=a: listener, and so no talker
changed_role r Listen = with_phase (with_listener r true) idle
-- Frames, commands, 64+n, any other n: talker no more
changed_role r Untalk = with_phase r idle
-- Frames, commands, 64+n, n=a: addressed talker, and so no listener
changed_role r Talk = with_listener (with_phase r addressed) false
-- Frames, commands, 20 and 4: a device clear is of the stores and of what is told, not of the role
changed_role r Clear = r
-- Frames, commands, 144: off the loop, the address kept
changed_role r Deselect = with_listener (with_phase r idle) false
-- Frames, commands, 146, 147 and 1: of the remote flags only
changed_role r Enable = r
changed_role r Disable = r
changed_role r Local = r
-- Frames, commands, 154: the address is given back
changed_role r Unassign = with_address r unassigned
-- Frames, commands, all others
changed_role r Nothing = r

-- the role after an order: what comes first at every command, then what the order says
unfoldable pub obeyed_role : Role → Order → Role
obeyed_role r o = changed_role (merely_addressed r) o

-- the role after a command with data byte d
abbrev pub after_command : ℕ → Role → ℕ → Role
after_command home r d = obeyed_role r (order_of home r d)
