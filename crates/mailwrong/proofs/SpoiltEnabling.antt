-- Mailboxes that are enabled wrongly to say that they are not ready, or that forget wrongly what they held back. Assumes nothing.
use mathlib.Core.Path.{refl, ap}
use mathlib.Core.Bool.{false≢true, true≢false}
use Rattle.mailstate.specs.declared.Hold.{Hold}
use Rattle.maillaws.specs.Sights.{to_bus}
use Rattle.maillaws.specs.HoldGoing.{HoldGoes}
use Rattle.mailwrong.specs.MailTrials.{fresh, leaver, holding_back, takes, commands}
use Rattle.mailwrong.specs.SpoiltEnabling.{never_enabled, enabled_unasked, releases_late, forgets_held}
use Rattle.mailwrong.specs.BrokenMail.{Breaks}
use Rattle.mailwrong.proofs.MailComputing.{computes}

pub never_enabled_falls : Breaks never_enabled HoldGoes
unfolding computes
never_enabled_falls law = false≢true (ap (λ (h : Hold). h.enabled) (law (takes 4 15) (leaver to_bus) tt refl))

pub enabled_unasked_falls : Breaks enabled_unasked HoldGoes
unfolding computes
enabled_unasked_falls law = true≢false (ap (λ (h : Hold). h.enabled) (law (commands 63) fresh tt refl))

pub releases_late_falls : Breaks releases_late HoldGoes
unfolding computes
releases_late_falls law = true≢false (ap (λ (h : Hold). h.held) (law (takes 4 0) (holding_back 49) tt refl))

pub forgets_held_falls : Breaks forgets_held HoldGoes
unfolding computes
forgets_held_falls law = false≢true (ap (λ (h : Hold). h.held) (law (commands 63) (holding_back 49) tt refl))
