-- Mailboxes that start wrongly, each refuted by a create or a reset. Assumes nothing.
use mathlib.Core.Path.{refl, ap}
use mathlib.Core.Bool.{false≢true, true≢false}
use mathlib.Core.List.{[]}
use lib.Dec.{eqb}
use Rattle.role.specs.declared.Role.{Role}
use Rattle.bus.specs.declared.Bus.{Bus}
use Rattle.mailstate.specs.declared.Hold.{Hold}
use Rattle.mailstate.specs.declared.State.{State}
use Rattle.mailbox.specs.Calls.{reset, create, on}
use Rattle.maillaws.specs.MailStarts.{StartsSo, ResetGivesStart}
use Rattle.mailwrong.specs.MailTrials.{fresh, assigned, holding_back}
use Rattle.mailwrong.specs.SpoiltStarts.{starts_at0, starts_listening, starts_enabled, reset_keeps_address, reset_keeps_held}
use Rattle.mailwrong.specs.BrokenMail.{Breaks}
use Rattle.mailwrong.proofs.MailComputing.{computes}

-- ---- create and reset

pub starts_at_0_falls : Breaks starts_at0 StartsSo
unfolding computes
starts_at_0_falls law = true≢false (ap (λ (b : Bus). eqb b.role.address 0) (law (create 5) fresh tt refl).bus)

pub starts_listening_falls : Breaks starts_listening StartsSo
unfolding computes
starts_listening_falls law = true≢false (ap (λ (r : Role). r.listener) (law (on reset) fresh tt refl).role)

pub starts_enabled_falls : Breaks starts_enabled StartsSo
unfolding computes
starts_enabled_falls law = true≢false (ap (λ (h : Hold). h.enabled) (law (create 5) fresh tt refl).hold)

-- ---- a create right after a reset

pub reset_keeps_address_falls : Breaks reset_keeps_address ResetGivesStart
unfolding computes
reset_keeps_address_falls law =
    false≢true (ap (λ (s : State). eqb s.talker.role.address 3) (law (on reset) [] (create 5) assigned tt tt tt refl refl refl refl refl))

pub reset_keeps_held_falls : Breaks reset_keeps_held ResetGivesStart
unfolding computes
reset_keeps_held_falls law =
    false≢true (ap (λ (s : State). s.hold.held) (law (on reset) [] (create 5) (holding_back 49) tt tt tt refl refl refl refl refl))
