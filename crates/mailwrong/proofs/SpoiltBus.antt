-- Mailboxes whose side to the bus goes wrong, each refuted by one call. Assumes nothing.
use mathlib.Core.Path.{refl, ap}
use mathlib.Core.Bool.{Bool, true, false≢true, true≢false}
use lib.Dec.{eqb}
use Rattle.bus.specs.declared.Bus.{Bus}
use Rattle.mailbox.specs.Calls.{bus_clear, on}
use Rattle.maillaws.specs.Sights.{to_bus}
use Rattle.maillaws.specs.StateFits.{KeepsFit}
use Rattle.maillaws.specs.BusRole.{BusRoleGoes}
use Rattle.mailwrong.specs.MailTrials.{fresh, fetcher, serial_talker, commands, asks}
use Rattle.mailwrong.specs.SpoiltBus.{loses_bus_address, stays_at_clear, talks_on, listens_while_talking, polled_on, forgets_reading, configured_unasked}
use Rattle.mailwrong.specs.BrokenMail.{Breaks}
use Rattle.mailwrong.proofs.MailComputing.{computes}

abbrev talks : Bus → Bool
talks b = eqb b.role.phase 1

-- ---- the role

pub loses_bus_address_falls : Breaks loses_bus_address BusRoleGoes
unfolding computes
loses_bus_address_falls law = true≢false (ap (λ (b : Bus). eqb b.role.address 0) (law (on bus_clear) fresh tt refl))

pub stays_at_clear_falls : Breaks stays_at_clear BusRoleGoes
unfolding computes
stays_at_clear_falls law = true≢false (ap talks (law (on bus_clear) (fetcher to_bus) tt refl))

-- the address 6 is to talk
pub talks_on_falls : Breaks talks_on BusRoleGoes
unfolding computes
talks_on_falls law = true≢false (ap talks (law (commands 70) (fetcher to_bus) tt refl))

-- a talker at the address 5 is to listen
pub listens_while_talking_falls : Breaks listens_while_talking BusRoleGoes
unfolding computes
listens_while_talking_falls law = true≢false (ap talks (law (commands 37) (fetcher to_bus) tt refl))

pub listens_while_talking_misfits : Breaks listens_while_talking KeepsFit
unfolding computes
listens_while_talking_misfits law = false≢true (law (commands 37) (fetcher to_bus) tt refl)

-- ---- the polls

pub polled_on_falls : Breaks polled_on BusRoleGoes
unfolding computes
polled_on_falls law = true≢false (ap (λ (b : Bus). b.serial) (law (commands 25) (serial_talker true) tt refl))

pub forgets_reading_falls : Breaks forgets_reading BusRoleGoes
unfolding computes
forgets_reading_falls law = false≢true (ap (λ (b : Bus). b.read) (law (asks to_bus) (serial_talker true) tt refl))

pub configured_unasked_falls : Breaks configured_unasked BusRoleGoes
unfolding computes
configured_unasked_falls law = true≢false (ap (λ (b : Bus). b.polled) (law (commands 96) fresh tt refl))
