-- Every bridge whose role or whose remote flags go wrong breaks the law of roles or that of the remote flags. Assumes nothing.
use mathlib.Core.Path.{refl, ap}
use mathlib.Core.Bool.{Bool, false≢true, true≢false}
use lib.Dec.{eqb}
use Rattle.role.specs.declared.Role.{Role}
use Rattle.role.specs.declared.remote.Remote.{Remote}
use Rattle.role.specs.Role.{is_talker, is_active, is_unassigned}
use Rattle.laws.specs.Fitting.{KeepsFit}
use Rattle.laws.specs.Roles.{RoleGoes, RemoteGoes}
use Rattle.wrong.specs.SmallWorlds.{fresh, assigned, listening, addressed_talker, active_talker, takes, takes_command, takes_ready}
use Rattle.wrong.specs.WrongSends.{passes_all}
use Rattle.wrong.specs.WrongRoles.{ignoring, never_talker, never_listener, listens_to31, talker_and_listener}
use Rattle.wrong.specs.WrongRoles.{active_throughout, never_ends, readdressed, remote_unasked}
use Rattle.wrong.specs.Broken.{Breaks}
use Rattle.wrong.proofs.Computing.{computes}

abbrev is_listener : Role → Bool
is_listener r = r.listener

abbrev is_enabled : Remote → Bool
is_enabled m = m.enabled

abbrev is_remote : Remote → Bool
is_remote m = m.remote

-- ---- commands without notice

pub ignoring_144_falls : Breaks (ignoring 144) RoleGoes
unfolding computes
ignoring_144_falls law = true≢false (ap is_listener (law (takes_command 144) listening tt refl))

pub ignoring_146_falls : Breaks (ignoring 146) RemoteGoes
unfolding computes
ignoring_146_falls law = false≢true (ap is_enabled (law (takes_command 146) fresh tt refl))

pub ignoring_147_falls : Breaks (ignoring 147) RemoteGoes
unfolding computes
ignoring_147_falls law = true≢false (ap is_remote (law (takes_command 147) listening tt refl))

pub ignoring_1_falls : Breaks (ignoring 1) RemoteGoes
unfolding computes
ignoring_1_falls law = true≢false (ap is_remote (law (takes_command 1) listening tt refl))

pub ignoring_154_falls : Breaks (ignoring 154) RoleGoes
unfolding computes
ignoring_154_falls law = false≢true (ap is_unassigned (law (takes_command 154) listening tt refl))

pub passes_all_stays_listener : Breaks passes_all RoleGoes
unfolding computes
passes_all_stays_listener law = true≢false (ap is_listener (law (takes_command 144) listening tt refl))

-- ---- talker and listener

pub never_talker_falls : Breaks never_talker RoleGoes
unfolding computes
never_talker_falls law = false≢true (ap is_talker (law (takes_command 69) assigned tt refl))

pub never_listener_falls : Breaks never_listener RoleGoes
unfolding computes
never_listener_falls law = false≢true (ap is_listener (law (takes_command 37) assigned tt refl))

pub listens_to_31_falls : Breaks listens_to31 RoleGoes
unfolding computes
listens_to_31_falls law = true≢false (ap is_listener (law (takes_command 63) fresh tt refl))

pub talker_and_listener_falls : Breaks talker_and_listener RoleGoes
unfolding computes
talker_and_listener_falls law = true≢false (ap is_talker (law (takes_command 37) addressed_talker tt refl))

-- it is talker and listener at once, and so does not fit
pub talker_and_listener_misfits : Breaks talker_and_listener KeepsFit
unfolding computes
talker_and_listener_misfits law = false≢true (law (takes_command 37) addressed_talker tt refl)

pub active_throughout_falls : Breaks active_throughout RoleGoes
unfolding computes
active_throughout_falls law = true≢false (ap is_active (law (takes_command 20) active_talker tt refl))

-- 0,49 comes back for 0,48
pub never_ends_falls : Breaks never_ends RoleGoes
unfolding computes
never_ends_falls law = true≢false (ap is_active (law (takes 0 49) active_talker tt refl))

-- ---- address and remote

pub readdressed_falls : Breaks readdressed RoleGoes
unfolding computes
readdressed_falls law = true≢false (ap (λ (r : Role). eqb r.address 7) (law (takes_ready 135) assigned tt refl))

pub remote_unasked_falls : Breaks remote_unasked RemoteGoes
unfolding computes
remote_unasked_falls law = true≢false (ap is_remote (law (takes_command 37) assigned tt refl))
