-- Every bridge that takes a break wrongly, or reads over it, breaks a law. Assumes nothing.
use native.Mathlib.Omega.{arith}
use mathlib.Core.Path.{refl, ap}
use mathlib.Core.Bool.{not, true≢false, false≢true}
use mathlib.Core.Logic.{⊎_elim}
use mathlib.Core.List.{List, [], ◌∷◌}
use borrow.Author.Tests.{lt-ltb}
use Rattle.frame.specs.Frame.{made}
use Rattle.answers.specs.Answers.{done, frame}
use Rattle.state.specs.Conditions.{break_state}
use Rattle.bridge.specs.Calls.{receive, transmit, World, on, line_byte, line_break, loop_frame}
use Rattle.laws.specs.Demands.{FramesRead, UnheldBreaks}
use Rattle.laws.specs.SendRule.{SendRule, NoneRemoved}
use Rattle.laws.specs.StorePlaces.{Places}
use Rattle.laws.specs.NineBits.{NineBits}
use Rattle.laws.specs.Events.{broken, Alone}
use Rattle.refuting.proofs.Apart.{lists_differ, numbers_differ}
use Rattle.refuting.proofs.StandsIn.{holds, no_round, goes_round}
use Rattle.wrong.specs.Trials.{holding_first, broken_pair, broken_byte, broken_before, broken_at_the_end, broken_equal_pair, upper_bits, half_pair, one_to_four, send_data}
use Rattle.wrong.specs.SmallWorlds.{holding_bytes}
use Rattle.wrong.specs.Seeing.{having}
use Rattle.wrong.specs.WrongSends.{command_empties}
use Rattle.wrong.specs.WrongBreaks.{joins_across, wall_in_the_pair, reads_upper_bits, spans_equal_pairs, holds_back}
use Rattle.wrong.specs.WrongBreaks.{keeps_upper_bits, puts_upper_bits, unmarks_again, marks_unheld, marks_by_the_rule, marks_both}
use Rattle.wrong.specs.WrongBreaks.{marks_the_oldest, mark_takes_a_place, marks_nothing, forgets_round, drops_undecided}
use Rattle.wrong.specs.Broken.{Breaks}
use Rattle.wrong.proofs.Computing.{computes}
use Rattle.wrong.proofs.Written.{Turn, leaves, does, Does}
use Rattle.wrong.proofs.Trying.{in_run}
use Rattle.wrong.proofs.Ends.{has_at, numbered}

-- ---- what is read

-- 13, break, 10: nothing is sent, where 0,13 is the first frame
pub joins_across_falls : Breaks joins_across SendRule
unfolding computes
joins_across_falls law =
    lists_differ _ _ refl
    (rw (holds broken_pair 0 2 refl, holds (13 ∷ 10 ∷ 0 ∷ 0 ∷ []) 0 2 refl)
    at (law (on (loop_frame send_data)) (holding_first 2 broken_pair) tt send_data refl
    (rw (holds broken_pair 0 2 refl, holds (13 ∷ 10 ∷ 0 ∷ 0 ∷ []) 0 2 refl)) refl).first)

-- the same over a run: nothing is sent and nothing is held, where 0,13 was to be read and 10 waits
pub joins_across_reads : Breaks joins_across FramesRead
unfolding computes
joins_across_reads law =
    lists_differ _ _ refl
    (rw (holds broken_pair 0 2 refl, holds (13 ∷ 10 ∷ 0 ∷ 0 ∷ []) 0 2 refl, no_round 4 2 refl, holds broken_pair 2 0 refl)
    at (law (on (loop_frame send_data) ∷ []) (holding_first 2 broken_pair) tt (tt, tt)
    (rw (holds broken_pair 0 2 refl, holds (13 ∷ 10 ∷ 0 ∷ 0 ∷ []) 0 2 refl))))

-- 50, break, 13, 10: 2,50 is sent, where 0,50 is the first frame
pub wall_in_the_pair_falls : Breaks wall_in_the_pair SendRule
unfolding computes
wall_in_the_pair_falls law =
    lists_differ _ _ refl
    (rw (holds broken_before 0 3 refl, holds (50 ∷ 13 ∷ 10 ∷ 0 ∷ []) 0 3 refl)
    at (law (on (loop_frame send_data)) (holding_first 3 broken_before) tt send_data refl
    (rw (holds broken_before 0 3 refl, holds (50 ∷ 13 ∷ 10 ∷ 0 ∷ []) 0 3 refl)) refl).first)

-- 50, 13 and 10, where 13 has a bit above the ninth: 0,50 is sent, where 2,50 is the first frame
pub reads_upper_bits_falls : Breaks reads_upper_bits SendRule
unfolding computes
reads_upper_bits_falls law =
    lists_differ _ _ refl
    (rw (holds upper_bits 0 3 refl, holds (50 ∷ 269 ∷ 10 ∷ 0 ∷ []) 0 3 refl)
    at (law (on (loop_frame send_data)) (holding_first 3 upper_bits) tt send_data refl
    (rw (holds upper_bits 0 3 refl, holds (50 ∷ 269 ∷ 10 ∷ 0 ∷ []) 0 3 refl)) refl).first)

-- 50, break: 5,64 is answered, where 0,50 is the first frame
pub holds_back_falls : Breaks holds_back SendRule
unfolding computes
holds_back_falls law =
    lists_differ _ _ refl
    (rw (holds broken_byte 0 1 refl, holds broken_byte 0 0 refl)
    at (law (on (loop_frame send_data)) (holding_first 1 broken_byte) tt send_data refl
    (rw (holds broken_byte 0 1 refl, holds broken_byte 0 0 refl)) refl).first)

-- 10, break, 10, where both characters are 10: nothing is sent, where 0,10 is the first frame
pub spans_equal_pairs_falls : Breaks spans_equal_pairs SendRule
unfolding computes
spans_equal_pairs_falls law =
    lists_differ _ _ refl
    (rw (holds (266 ∷ 10 ∷ 0 ∷ 0 ∷ []) 0 2 refl, holds (10 ∷ 10 ∷ 0 ∷ 0 ∷ []) 0 2 refl)
    at (law (on (loop_frame send_data)) broken_equal_pair tt send_data refl
    (rw (holds (266 ∷ 10 ∷ 0 ∷ 0 ∷ []) 0 2 refl, holds (10 ∷ 10 ∷ 0 ∷ 0 ∷ []) 0 2 refl)) refl).first)

-- ---- what is written

-- 50 and 13 are held, 13 with a bit above the ninth, which stays
pub keeps_upper_bits_falls : Breaks keeps_upper_bits NineBits
unfolding computes
keeps_upper_bits_falls law =
    ⊎_elim (λ e. numbers_differ _ _ refl e) (λ h. true≢false (ap not (lt-ltb _ 512 h)))
    (rw (holds upper_bits 0 2 refl) at (law (on line_break) (holding_first 2 upper_bits) tt tt 1))

pub puts_upper_bits_falls : Breaks puts_upper_bits NineBits
unfolding computes
puts_upper_bits_falls law =
    ⊎_elim (λ e. numbers_differ _ _ refl e) (λ h. true≢false (ap not (lt-ltb _ 512 h)))
    (rw (no_round 4 2 refl) at (law (on (line_byte 60)) (holding_first 2 half_pair) tt (omega arith) 2))

-- 50, break: a break comes again, and the mark is gone
pub unmarks_again_falls : Breaks unmarks_again (Places receive)
unfolding computes
unmarks_again_falls law =
    true≢false (ap (has_at 0 50) (rw (holds broken_byte 0 1 refl) at (law (on line_break) (holding_first 1 broken_byte) tt).bytes))

-- nothing is held, and a mark stands at the last place
pub marks_unheld_falls : Breaks marks_unheld (Places receive)
unfolding computes
marks_unheld_falls law =
    true≢false (ap (has_at 3 256) (rw (holds half_pair 0 0 refl) at (law (on line_break) (holding_first 0 half_pair) tt).bytes))

-- two bytes are held with R10 bit 3 off, and the mark stands nowhere
pub marks_by_the_rule_falls : Breaks marks_by_the_rule (Places receive)
unfolding computes
marks_by_the_rule_falls law =
    false≢true (ap (has_at 1 306) (rw (holds one_to_four 0 2 refl) at (law (on line_break) (holding_bytes 2) tt).bytes))

-- place 0 of the transmit store is written
pub marks_both_falls : Breaks marks_both (Places transmit)
unfolding computes
marks_both_falls law = true≢false (ap (has_at 0 256) (law (on line_break) (holding_first 0 half_pair) tt).bytes)

-- 50 and 13 are held, and the mark stands at 50
pub marks_the_oldest_falls : Breaks marks_the_oldest (Places receive)
unfolding computes
marks_the_oldest_falls law =
    true≢false (ap (has_at 0 306) (rw (holds half_pair 0 2 refl) at (law (on line_break) (holding_first 2 half_pair) tt).bytes))

-- a third place is taken
pub mark_takes_a_place_falls : Breaks mark_takes_a_place (Places receive)
unfolding computes
mark_takes_a_place_falls law =
    true≢false (ap (has_at 2 256) (rw (holds half_pair 0 2 refl, no_round 4 2 refl) at (law (on line_break) (holding_first 2 half_pair) tt).bytes))

-- the mark stands nowhere
pub marks_nothing_falls : Breaks marks_nothing (Places receive)
unfolding computes
marks_nothing_falls law =
    false≢true (ap (has_at 1 269) (rw (holds half_pair 0 2 refl) at (law (on line_break) (holding_first 2 half_pair) tt).bytes))

-- the same, by what a break is said to change
pub marks_nothing_noted : Breaks marks_nothing (Alone broken)
unfolding computes
marks_nothing_noted law =
    false≢true
    (ap (λ w. has_at 1 269 w.rx) (rw (holds half_pair 0 2 refl) at (law (on line_break) (holding_first 2 half_pair) tt refl).rest))

-- what is held then is 50, break, 13
pub marks_the_oldest_holds : Breaks marks_the_oldest NoneRemoved
unfolding computes
marks_the_oldest_holds law =
    lists_differ _ _ refl
    (ap numbered
    (rw (holds half_pair 0 2 refl, holds (306 ∷ 13 ∷ 0 ∷ 0 ∷ []) 0 2 refl) at (law (on line_break) (holding_first 2 half_pair) tt tt refl refl)))

-- 50, break stands at the last place, "<" comes round to place 0, and the break is gone
pub forgets_round_falls : Breaks forgets_round (Places receive)
unfolding computes
forgets_round_falls law = true≢false (ap (has_at 3 50) (rw (goes_round 4 4 refl) at (law (on (line_byte 60)) broken_at_the_end tt).bytes))

-- ---- a break that comes while nothing is held: 50 and 13 are dropped, a break comes, and 10

-- 5,64 is answered and nothing is held, and after the break neither
emptied : World
emptied = holding_first 0 half_pair

dropped : List Turn
dropped =
    leaves (loop_frame send_data) (frame 5 64) emptied
    ∷ leaves line_break done (having break_state emptied)
    ∷ does drops_undecided (on (line_byte 10)) (having break_state emptied)
    ∷ []

dropped_runs : Does drops_undecided (holding_first 2 half_pair) dropped
unfolding computes emptied dropped
dropped_runs = (rw (holds half_pair 0 2 refl), (refl, (refl, tt)))

pub drops_undecided_falls : Breaks drops_undecided UnheldBreaks
unfolding computes emptied dropped
drops_undecided_falls law =
    lists_differ _ _ refl
    (rw (holds half_pair 0 2 refl, holds half_pair 0 0 refl)
    at (in_run drops_undecided UnheldBreaks (holding_first 2 half_pair) dropped dropped_runs refl law refl))

pub command_empties_unheld : Breaks command_empties UnheldBreaks
unfolding computes
command_empties_unheld law =
    lists_differ _ _ refl
    (rw (holds half_pair 0 2 refl, holds half_pair 0 0 refl)
    at (law (on (loop_frame (made 4 70)) ∷ on line_break ∷ on (line_byte 10) ∷ []) (holding_first 2 half_pair) tt (tt, (tt, (omega arith, tt))) refl))
