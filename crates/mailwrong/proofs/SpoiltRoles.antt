-- Mailboxes whose role on the loop goes wrong, each refuted by one frame. Assumes nothing.
use mathlib.Core.Path.{refl, ap}
use mathlib.Core.Bool.{Bool, false≢true, true≢false}
use lib.Dec.{eqb}
use Rattle.role.specs.declared.Role.{Role}
use Rattle.role.specs.Role.{is_active, is_unassigned}
use Rattle.maillaws.specs.Sights.{to_bus}
use Rattle.maillaws.specs.StateFits.{KeepsFit}
use Rattle.maillaws.specs.LoopRole.{LoopRoleGoes}
use Rattle.mailwrong.specs.MailTrials.{fresh, assigned, leaver, one_sent, takes}
use Rattle.mailwrong.specs.SpoiltRoles.{listens_at31, not_at15, talks_while_listening, loses_address, addressed_anew, waits_on_at_command}
use Rattle.mailwrong.specs.BrokenMail.{Breaks}
use Rattle.mailwrong.proofs.MailComputing.{computes}

abbrev is_listener : Role → Bool
is_listener r = r.listener

pub listens_at_31_falls : Breaks listens_at31 LoopRoleGoes
unfolding computes
listens_at_31_falls law = true≢false (ap is_listener (law (takes 4 63) fresh tt refl))

-- the listen address 15, where it has no other
pub not_at_15_falls : Breaks not_at15 LoopRoleGoes
unfolding computes
not_at_15_falls law = false≢true (ap is_listener (law (takes 4 47) fresh tt refl))

-- a listener at the address 3 is addressed to talk
pub talks_while_listening_falls : Breaks talks_while_listening LoopRoleGoes
unfolding computes
talks_while_listening_falls law = true≢false (ap is_listener (law (takes 4 67) (leaver to_bus) tt refl))

pub talks_while_listening_misfits : Breaks talks_while_listening KeepsFit
unfolding computes
talks_while_listening_misfits law = false≢true (law (takes 4 67) (leaver to_bus) tt refl)

pub loses_address_falls : Breaks loses_address LoopRoleGoes
unfolding computes
loses_address_falls law = true≢false (ap is_unassigned (law (takes 4 144) assigned tt refl))

-- the address 7 is offered
pub addressed_anew_falls : Breaks addressed_anew LoopRoleGoes
unfolding computes
addressed_anew_falls law = true≢false (ap (λ (r : Role). eqb r.address 7) (law (takes 5 135) assigned tt refl))

-- a parallel poll is unconfigured while 2,50 is under way
pub waits_on_at_command_falls : Breaks waits_on_at_command LoopRoleGoes
unfolding computes
waits_on_at_command_falls law = true≢false (ap is_active (law (takes 4 21) one_sent tt refl))
