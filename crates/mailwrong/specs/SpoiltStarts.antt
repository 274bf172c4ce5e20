-- Mailboxes that start wrongly.
use Rattle.std.specs.Prelude.{true, false}
use Rattle.role.specs.Role.{with_address, with_listener}
use Rattle.mailstate.specs.State.{with_hold}
use Rattle.mailbox.specs.Calls.{reset, Call, World, Did}
use Rattle.maillaws.specs.Sights.{on_one, restarts}
use Rattle.mailwrong.specs.Spoiling.{Sight, after_sight, with_loop_role, on_bus, as_role}

abbrev restarting : Sight
restarting c w a = restarts c a

abbrev resetting : Sight
resetting c w a = on_one reset (restarts c a) false c

-- ---- create and reset

-- is at the address 0 of the bus, whatever it is created at, from a create or reset on
abbrev pub starts_at0 : Call → World → Did
starts_at0 = after_sight restarting (λ before after. on_bus (λ b. as_role (with_address b.role 0) b) after)

-- begins as a listener on both sides
abbrev pub starts_listening : Call → World → Did
starts_listening =
    after_sight restarting
    (λ before after. with_loop_role (with_listener after.talker.role true) (on_bus (λ b. as_role (with_listener b.role true) b) after))

-- says from the start on that it is not ready
abbrev pub starts_enabled : Call → World → Did
starts_enabled = after_sight restarting (λ before after. with_hold after (record { enabled = true; held = false; frame = 0 }))

-- ---- reset alone

-- keeps its address on the loop at a reset, which a create does not
abbrev pub reset_keeps_address : Call → World → Did
reset_keeps_address = after_sight resetting (λ before after. with_loop_role (with_address after.talker.role before.talker.role.address) after)

-- goes on with what it held back at a reset
abbrev pub reset_keeps_held : Call → World → Did
reset_keeps_held = after_sight resetting (λ before after. with_hold after before.hold)
