-- Bridges by which a wrong byte goes to the line, or one at the wrong time. Assumes nothing.
use mathlib.Core.Path.{refl}
use mathlib.Core.Bool.{true, false, true≢false}
use mathlib.Core.List.{List, [], ◌∷◌}
use Rattle.frame.specs.Frame.{made}
use Rattle.answers.specs.Answers.{done, frame}
use Rattle.state.specs.State.{with_tx}
use Rattle.bridge.specs.Calls.{on, write, ask_line_byte, take_line_byte, loop_frame, World, world}
use Rattle.laws.specs.LineBytes.{LineKept, LineSince}
use Rattle.laws.specs.NextByte.{NextAsked, TakesNext, ForbiddenGoes}
use Rattle.refuting.proofs.Apart.{lists_differ, answers_differ}
use Rattle.refuting.proofs.StandsIn.{holds, no_round}
use Rattle.wrong.specs.Trials.{came_in, switched_off, forbidding, begun_with, one_for_the_line, stop_is_due, listener_adding_ends, clear_all}
use Rattle.wrong.specs.WrongLine.{stuttering, leaves_out_c03, withholds_go_when_off, data_before_own, goes_while_forbidden, own_waits_while_forbidden}
use Rattle.wrong.specs.WrongLine.{clear_keeps_forbidden, write_keeps_forbidden}
use Rattle.wrong.specs.Broken.{Breaks}
use Rattle.refuting.specs.SmallRings.{ring}
use Rattle.wrong.proofs.Computing.{computes}
use Rattle.wrong.proofs.Written.{Turn, Does, leaves}
use Rattle.wrong.proofs.Trying.{in_run, in_since}

-- ---- the line bytes handed out, and those held

-- "A" is taken and still held
abbrev stutters : List Turn
stutters = leaves (take_line_byte 65) done (one_for_the_line 65) ∷ []

stuttering_runs : Does stuttering (one_for_the_line 65) stutters
unfolding computes
stuttering_runs = (rw (holds (begun_with 65) 0 1 refl), tt)

pub stuttering_falls : Breaks stuttering LineKept
unfolding computes
stuttering_falls law =
    lists_differ _ _ refl
    (rw (holds (begun_with 65) 0 1 refl) at (in_run stuttering LineKept (one_for_the_line 65) stutters stuttering_runs refl law refl))

-- 2,65 adds 65 13 10, and 65 13 is held
pub leaves_out_c03_falls : Breaks leaves_out_c03 LineKept
unfolding computes
leaves_out_c03_falls law =
    lists_differ _ _ refl
    (rw (holds (begun_with 0) 0 0 refl, no_round 3 0 refl, no_round 3 1 refl, no_round 3 2 refl, holds (65 ∷ 13 ∷ 10 ∷ []) 0 2 refl)
    at (law (on (loop_frame (made 2 65)) ∷ []) listener_adding_ends tt (tt, tt) refl))

-- the same since a device clear: "A" comes, is taken and is still held
listener_holds_one : World
listener_holds_one = world (with_tx listener_adding_ends.state (ring 3 0 1)) listener_adding_ends.rx (begun_with 65)

emptied : Turn
emptied = leaves (loop_frame clear_all) (frame 4 20) listener_adding_ends

stutters_one : List Turn
stutters_one = leaves (loop_frame 65) (frame 0 65) listener_holds_one ∷ leaves (take_line_byte 65) done listener_holds_one ∷ []

stuttering_runs_since : Does stuttering listener_adding_ends (emptied ∷ stutters_one)
unfolding computes emptied stutters_one listener_holds_one
stuttering_runs_since = (refl, (rw (no_round 3 0 refl), (rw (holds (begun_with 65) 0 1 refl), tt)))

pub stuttering_falls_since : Breaks stuttering LineSince
unfolding computes emptied stutters_one listener_holds_one
stuttering_falls_since law =
    lists_differ _ _ refl
    (rw (holds (begun_with 65) 0 1 refl) at (in_since stuttering LineSince listener_adding_ends emptied stutters_one stuttering_runs_since refl law refl refl))

pub leaves_out_c03_falls_since : Breaks leaves_out_c03 LineSince
unfolding computes
leaves_out_c03_falls_since law =
    lists_differ _ _ refl
    (rw (no_round 3 0 refl, no_round 3 1 refl, no_round 3 2 refl, holds (65 ∷ 13 ∷ 10 ∷ []) 0 2 refl)
    at (law (on (loop_frame clear_all)) (on (loop_frame (made 2 65)) ∷ []) listener_adding_ends tt tt (tt, tt) refl refl))

-- ---- the next line byte

-- nothing is said to be next, where go is owed
pub withholds_go_when_off_falls : Breaks withholds_go_when_off NextAsked
unfolding computes
withholds_go_when_off_falls law = answers_differ _ _ refl ((law (on ask_line_byte) (switched_off (came_in 3 false true)) tt refl).fit refl)

-- "A" is said to be next, where stop is owed
pub data_before_own_falls : Breaks data_before_own NextAsked
unfolding computes
data_before_own_falls law =
    answers_differ _ _ refl
    (rw (holds (begun_with 65) 0 1 refl) at ((law (on ask_line_byte) (stop_is_due (one_for_the_line 65)) tt refl).fit refl))

-- "A" is said to be next, where nothing may be
pub goes_while_forbidden_falls : Breaks goes_while_forbidden NextAsked
unfolding computes
goes_while_forbidden_falls law =
    answers_differ _ _ refl
    (rw (holds (begun_with 65) 0 1 refl) at ((law (on ask_line_byte) (forbidding (one_for_the_line 65)) tt refl).fit refl))

-- "A" is taken, where nothing may be
pub goes_while_forbidden_taken : Breaks goes_while_forbidden TakesNext
unfolding computes
goes_while_forbidden_taken law =
    answers_differ _ _ refl
    (rw (holds (begun_with 65) 0 1 refl) at
    ((law (on (take_line_byte 65)) (forbidding (one_for_the_line 65)) tt 65 refl).other refl (λ e. answers_differ _ _ refl e)))

-- nothing is said to be next, where stop is due
pub own_waits_while_forbidden_falls : Breaks own_waits_while_forbidden NextAsked
unfolding computes
own_waits_while_forbidden_falls law =
    answers_differ _ _ refl
    ((law (on ask_line_byte) (forbidding (stop_is_due (one_for_the_line 65))) tt refl).fit refl)

-- ---- what permits and forbids our sending

pub clear_keeps_forbidden_falls : Breaks clear_keeps_forbidden ForbiddenGoes
unfolding computes
clear_keeps_forbidden_falls law = true≢false (law (on (loop_frame clear_all)) (forbidding (came_in 0 false false)) tt)

pub write_keeps_forbidden_falls : Breaks write_keeps_forbidden ForbiddenGoes
unfolding computes
write_keeps_forbidden_falls law = true≢false (law (on (write 11 8)) (forbidding (came_in 0 false false)) tt)
