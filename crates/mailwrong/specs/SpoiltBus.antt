-- Mailboxes whose side to the bus goes wrong: its role and its polls.
use Rattle.std.specs.Prelude.{ℕ, ◌+◌, ◌%◌, Bool, true, false, cond, ◌&&◌, eqb, leb, ltb}
use Rattle.role.specs.Role.{with_address, with_phase}
use Rattle.bus.specs.declared.Bus.{Bus}
use Rattle.mailbox.specs.Calls.{bus_clear, Call, World, Did}
use Rattle.maillaws.specs.Sights.{on_bus_command, on_one}
use Rattle.mailwrong.specs.Spoiling.{leaving, having, on_bus, as_role, with_serial, with_read}

-- ours, with the side to the bus changed by the call and the side before and after it
abbrev siding : (Call → Bus → Bus → Bus) → Call → World → Did
siding change = leaving (λ c w v. having (on_bus (change c w.state.bus)) v)

abbrev is_bus_command : ℕ → Call → Bool
is_bus_command n = on_bus_command (λ c. eqb c n) false

-- ---- the role

-- is at the address 0 of the bus from an interface clear on
abbrev pub loses_bus_address : Call → World → Did
loses_bus_address = siding (λ c before after. on_one bus_clear (as_role (with_address after.role 0) after) after c)

-- stays talker or listener at an interface clear of the bus
abbrev pub stays_at_clear : Call → World → Did
stays_at_clear = siding (λ c before after. on_one bus_clear (as_role before.role after) after c)

abbrev talking_as : Bus → Bus → Bus
talking_as before after = as_role (with_phase after.role before.role.phase) after

-- goes on talking on the bus when the talk address of another comes
abbrev pub talks_on : Call → World → Did
talks_on = siding (λ c before after. on_bus_command (λ n. cond (leb 64 n && ltb n 96) (talking_as before after) after) after c)

-- stays talker on the bus when its listen address comes
abbrev pub listens_while_talking : Call → World → Did
listens_while_talking =
    siding (λ c before after. cond (is_bus_command (32 + before.role.address) c) (talking_as before after) after)

-- ---- the polls

-- stays in serial poll mode when its end is commanded
abbrev pub polled_on : Call → World → Did
polled_on = siding (λ c before after. cond (is_bus_command 25 c) (with_serial before.serial after) after)

-- forgets that its status byte was read
abbrev pub forgets_reading : Call → World → Did
forgets_reading = siding (λ c before after. with_read false after)

-- takes 96 to 111 for a poll enable though no poll configure came before
abbrev pub configured_unasked : Call → World → Did
configured_unasked =
    siding
    (λ c before after.
    on_bus_command
    (λ n. cond (leb 96 n && ltb n 112)
    (record { role = after.role; serial = after.serial; read = after.read; configuring = after.configuring; polled = true; line = n % 8 }) after)
    after c)
