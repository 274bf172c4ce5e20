-- Every bridge that lets the reading rule change under a held line, or refuses wrongly to change it, breaks a law. Assumes nothing.
use native.Mathlib.Omega.{arith}
use mathlib.Core.Path.{refl, ap}
use mathlib.Core.Bool.{false, true≢false, false≢true}
use mathlib.Core.List.{List, [], ◌∷◌}
use Rattle.answers.specs.Answers.{done}
use Rattle.registers.specs.Writing.{written}
use Rattle.reading.specs.declared.Rule.{Rule}
use Rattle.state.specs.State.{with_registers}
use Rattle.bridge.specs.Calls.{on, write, line_byte, reset}
use Rattle.laws.specs.Answering.{RefusedExactly}
use Rattle.laws.specs.Demands.{FramesRead, NothingWaits}
use Rattle.laws.specs.SendRule.{FramesSince}
use Rattle.laws.specs.HeldLine.{RuleStays, RefusedWhileHeld}
use Rattle.refuting.proofs.Apart.{lists_differ, numbers_differ, answers_differ}
use Rattle.refuting.proofs.StandsIn.{holds, no_round}
use Rattle.wrong.specs.Trials.{holding_first, half_pair, pair_first, one_to_four, one_gone}
use Rattle.wrong.specs.SmallWorlds.{holding_bytes}
use Rattle.wrong.specs.Seeing.{having}
use Rattle.wrong.specs.WrongRules.{reads_by_the_new_pair, refuses_only_changes, lets_r10_through, heeds_only_when_on, heeds_only_undecided}
use Rattle.wrong.specs.WrongRules.{write_empties, write_breaks, refuses_under_way, refuses_all_held, ten_first, refuses_as_unknown}
use Rattle.wrong.specs.Broken.{Breaks}
use Rattle.wrong.proofs.Computing.{computes}
use Rattle.wrong.proofs.Written.{Turn, leaves, Does}
use Rattle.wrong.proofs.Trying.{in_run}

-- ---- what is read

-- 50 and 13 are held, C01 becomes 65, and 65 comes: 2,50 is to be read, where 0,50 and 0,13 were and 65 waits
pub reads_by_the_new_pair_falls : Breaks reads_by_the_new_pair FramesRead
unfolding computes
reads_by_the_new_pair_falls law =
    lists_differ _ _ refl
    (rw (holds half_pair 0 2 refl, no_round 4 2 refl, holds (50 ∷ 13 ∷ 65 ∷ 0 ∷ []) 0 3 refl)
    at (law (on (write 17 65) ∷ on (line_byte 65) ∷ []) (holding_first 2 half_pair) tt (tt, (omega arith, tt)) refl))

-- the same with an empty store behind the write: 50 and 13 are gone
pub write_empties_falls : Breaks write_empties FramesRead
unfolding computes
write_empties_falls law =
    lists_differ _ _ refl
    (rw (holds half_pair 0 2 refl, no_round 4 0 refl, holds (65 ∷ 13 ∷ 0 ∷ 0 ∷ []) 0 1 refl)
    at (law (on (write 17 65) ∷ on (line_byte 65) ∷ []) (holding_first 2 half_pair) tt (tt, (omega arith, tt)) refl))

-- "1" is held with R10 bit 3 off: 0,49 was to be read, and waits now
pub lets_r10_through_falls : Breaks lets_r10_through FramesRead
unfolding computes
lets_r10_through_falls law =
    lists_differ _ _ refl (rw (holds one_to_four 0 1 refl) at (law (on (write 10 8) ∷ []) (holding_bytes 1) tt (tt, tt) refl))

pub heeds_only_when_on_falls : Breaks heeds_only_when_on FramesRead
unfolding computes
heeds_only_when_on_falls law =
    lists_differ _ _ refl (rw (holds one_to_four 0 1 refl) at (law (on (write 10 8) ∷ []) (holding_bytes 1) tt (tt, tt) refl))

-- a pair is held, of which no frame was to be read, and C01 becomes 65: 0,13 is
pair_read : List Turn
pair_read = leaves (write 17 65) done (having (λ s. with_registers s (written s.regs 17 65)) (holding_first 2 pair_first)) ∷ []

pair_read_runs : Does heeds_only_undecided (holding_first 2 pair_first) pair_read
unfolding computes pair_read
pair_read_runs = (rw (holds pair_first 0 2 refl), tt)

pub heeds_only_undecided_falls : Breaks heeds_only_undecided FramesRead
unfolding computes pair_read
heeds_only_undecided_falls law =
    lists_differ _ _ refl
    (rw (holds pair_first 0 2 refl) at (in_run heeds_only_undecided FramesRead (holding_first 2 pair_first) pair_read pair_read_runs refl law refl))

-- since a reset, after which R10 bit 3 is off
pub reads_by_the_new_pair_since : Breaks reads_by_the_new_pair FramesSince
unfolding computes
reads_by_the_new_pair_since law =
    lists_differ _ _ refl
    (rw (no_round 4 0 refl, holds (49 ∷ 13 ∷ 0 ∷ 0 ∷ []) 0 1 refl)
    at (law (on reset) (on (line_byte 49) ∷ on (write 10 8) ∷ []) (holding_first 2 half_pair) tt tt (omega arith, (tt, tt)) refl refl))

-- ---- what waits where the rule changes

-- 50 and 13 wait under the old pair when 65 comes under the new one
pub reads_by_the_new_pair_waits : Breaks reads_by_the_new_pair NothingWaits
unfolding computes
reads_by_the_new_pair_waits law =
    lists_differ _ _ refl
    (rw (holds half_pair 0 2 refl) at (law (on (write 17 65) ∷ on (line_byte 65) ∷ []) (holding_first 2 half_pair) tt (tt, (omega arith, tt)) refl))

-- the same where they were marked, so that they are read as before a wall
pub write_breaks_falls : Breaks write_breaks NothingWaits
unfolding computes
write_breaks_falls law =
    lists_differ _ _ refl
    (rw (holds half_pair 0 2 refl, no_round 4 1 refl)
    at (law (on (write 17 65) ∷ on (line_byte 65) ∷ []) (holding_first 2 half_pair) tt (tt, (omega arith, tt)) refl))

-- ---- the rule

-- C01 was 10 and is 65
pub reads_by_the_new_pair_changes : Breaks reads_by_the_new_pair RuleStays
unfolding computes
reads_by_the_new_pair_changes law =
    numbers_differ _ _ refl (ap (λ (r : Rule). r.c01) (law (on (write 17 65)) (holding_first 2 half_pair) tt refl (rw (holds half_pair 0 2 refl))))

-- it was off and is on
pub lets_r10_through_changes : Breaks lets_r10_through RuleStays
unfolding computes
lets_r10_through_changes law =
    true≢false (ap (λ (r : Rule). r.on) (law (on (write 10 8)) (holding_bytes 1) tt refl (rw (holds one_to_four 0 1 refl))))

-- ---- refusals

-- C01 is 10, and becomes 10
pub refuses_only_changes_falls : Breaks refuses_only_changes RefusedWhileHeld
unfolding computes
refuses_only_changes_falls law =
    true≢false ((law (on (write 17 10)) (holding_first 2 half_pair) tt 17 10 refl).always refl (rw (holds half_pair 0 2 refl)))

-- R10 bit 2 alone
pub lets_r10_through_takes : Breaks lets_r10_through RefusedWhileHeld
unfolding computes
lets_r10_through_takes law =
    true≢false ((law (on (write 10 4)) (holding_bytes 1) tt 10 4 refl).always refl (rw (holds one_to_four 0 1 refl)))

-- 0,49 is under way, and nothing is held
pub refuses_under_way_falls : Breaks refuses_under_way RefusedWhileHeld
unfolding computes
refuses_under_way_falls law =
    false≢true (rw (holds one_to_four 1 0 refl) at ((law (on (write 10 8)) (one_gone 1 0 false) tt 10 8 refl).something refl))

-- C04
pub refuses_all_held_falls : Breaks refuses_all_held RefusedWhileHeld
unfolding computes
refuses_all_held_falls law =
    false≢true ((law (on (write 20 65)) (holding_bytes 1) tt 20 65 refl).register (rw (holds one_to_four 0 1 refl)))

-- R10 carries no bit 0: 7 is answered, and 10 is not
pub ten_first_falls : Breaks ten_first RefusedExactly
unfolding computes
ten_first_falls law =
    answers_differ _ _ refl (rw (holds one_to_four 0 1 refl) at ((law (on (write 10 1)) (holding_bytes 1) tt).given (λ e. omega arith)))

pub ten_first_comes_first : Breaks ten_first RefusedWhileHeld
unfolding computes
ten_first_comes_first law =
    false≢true ((law (on (write 10 1)) (holding_bytes 1) tt 10 1 refl).last (rw (holds one_to_four 0 1 refl)))

-- 5 is answered, and 10 is not
pub refuses_as_unknown_falls : Breaks refuses_as_unknown RefusedWhileHeld
unfolding computes
refuses_as_unknown_falls law =
    answers_differ _ _ refl ((law (on (write 10 8)) (holding_bytes 1) tt 10 8 refl).ten refl (rw (holds one_to_four 0 1 refl)) refl refl)
