-- Every bridge that starts wrongly, or whose registers go wrong, breaks a law of starts or of registers. Assumes nothing.
use mathlib.Core.Path.{refl, ap}
use mathlib.Core.Bool.{false≢true, true≢false}
use mathlib.Core.List.{[]}
use lib.Dec.{eqb}
use Rattle.role.specs.Role.{is_unassigned}
use Rattle.state.specs.declared.State.{State}
use Rattle.state.specs.declared.Counts.{Counts}
use Rattle.bridge.specs.Calls.{reset, write, create, on}
use Rattle.laws.specs.Starting.{StartsSo, MarginRecorded, ResetGivesStart}
use Rattle.laws.specs.Registers.{RegistersGo}
use Rattle.wrong.specs.SmallWorlds.{fresh, misfitting, detecting, counting, takes_command}
use Rattle.wrong.specs.WrongStarts.{starts_at12, starts_assigned, create_keeps_counts, create_keeps_margin}
use Rattle.wrong.specs.WrongStarts.{reset_widens, reset_keeps_registers, reset_keeps_counts, clears_registers, writes_both_pairs}
use Rattle.wrong.specs.Broken.{Breaks}
use Rattle.wrong.proofs.Computing.{computes}
use Rattle.wrong.proofs.Ends.{has_at}

-- ---- create and reset

pub starts_at_12_falls : Breaks starts_at12 StartsSo
unfolding computes
starts_at_12_falls law = true≢false (ap (has_at 4 12) (law (create 1) fresh tt refl).registers)

pub create_keeps_counts_falls : Breaks create_keeps_counts StartsSo
unfolding computes
create_keeps_counts_falls law = true≢false (ap (λ (k : Counts). eqb k.stored 3) (law (create 1) counting tt refl).counts)

pub starts_assigned_falls : Breaks starts_assigned StartsSo
unfolding computes
starts_assigned_falls law = false≢true (ap is_unassigned (law (on reset) fresh tt refl).role)

pub reset_widens_falls : Breaks reset_widens MarginRecorded
unfolding computes
reset_widens_falls law = true≢false (ap (λ n. eqb n 2) (law (on reset) fresh tt refl))

-- a margin of 2 stands there, and 1 is given
pub create_keeps_margin_falls : Breaks create_keeps_margin MarginRecorded
unfolding computes
create_keeps_margin_falls law = true≢false (ap (λ n. eqb n 2) (law (create 1) misfitting tt refl))

pub reset_keeps_registers_falls : Breaks reset_keeps_registers ResetGivesStart
unfolding computes
reset_keeps_registers_falls law =
    false≢true (ap (λ (s : State). eqb s.regs.r10 8) (law (on reset) [] (create 1) detecting tt tt tt refl refl refl refl refl))

pub reset_keeps_counts_falls : Breaks reset_keeps_counts ResetGivesStart
unfolding computes
reset_keeps_counts_falls law =
    false≢true (ap (λ (s : State). eqb s.counts.stored 3) (law (on reset) [] (create 1) counting tt tt tt refl refl refl refl refl))

-- ---- registers

pub clears_registers_falls : Breaks clears_registers RegistersGo
unfolding computes
clears_registers_falls law = false≢true (ap (has_at 3 8) (law (takes_command 20) detecting tt refl))

pub writes_both_pairs_falls : Breaks writes_both_pairs RegistersGo
unfolding computes
writes_both_pairs_falls law = true≢false (ap (has_at 7 10) (law (on (write 16 10)) fresh tt refl))
