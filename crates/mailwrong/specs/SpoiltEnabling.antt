-- Mailboxes that are enabled wrongly to say that they are not ready, or that forget wrongly what they held back.
use Rattle.std.specs.Prelude.{Bool, true, false, eqb}
use Rattle.frame.specs.Frame.{control_of}
use Rattle.mailstate.specs.State.{with_hold}
use Rattle.mailbox.specs.Calls.{Call, World, Did}
use Rattle.maillaws.specs.Sights.{on_frame, on_bus_command}
use Rattle.mailwrong.specs.Spoiling.{Sight, after_sight, leaving, having}

-- after every call it is enabled to say that it is not ready, or is not
abbrev enabling : Bool → Call → World → Did
enabling x = leaving (λ c w v. having (λ s. with_hold s (record { enabled = x; held = s.hold.held; frame = s.hold.frame })) v)

-- takes no notice of enable listener not ready
abbrev pub never_enabled : Call → World → Did
never_enabled = enabling false

-- says that it is not ready without having been asked to
abbrev pub enabled_unasked : Call → World → Did
enabled_unasked = enabling true

abbrev commanded : Sight
commanded c w a = on_frame (λ f. eqb (control_of f) 4) false c

-- releases a frame though a command has come since it was held back
abbrev pub releases_late : Call → World → Did
releases_late = after_sight commanded (λ before after. with_hold after before.hold)

-- forgets the frame that it held back at a command of the bus
abbrev pub forgets_held : Call → World → Did
forgets_held =
    after_sight (λ c w a. on_bus_command (λ n. true) false c)
    (λ before after. with_hold after (record { enabled = after.hold.enabled; held = false; frame = 0 }))
