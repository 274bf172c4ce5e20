-- Bridges that forget which of go and stop they sent last, withhold the one that is owed, or let another byte go before it. Assumes nothing.
use native.Mathlib.Omega.{arith}
use mathlib.Core.Path.{refl}
use mathlib.Core.Bool.{Bool, true, false, false≢true, true≢false}
use mathlib.Core.List.{List, [], ◌∷◌, ◌++◌}
use Rattle.answers.specs.Answers.{done}
use Rattle.bridge.specs.Calls.{on, reset, write, ask_line_byte, take_line_byte, World}
use Rattle.laws.specs.LastSent.{LastKept, LastSince, OwnNext}
use Rattle.refuting.proofs.Apart.{numbers_differ, answers_differ}
use Rattle.refuting.proofs.StandsIn.{holds, no_round}
use Rattle.wrong.specs.Trials.{came_in, switched_off, begun_with, one_for_the_line}
use Rattle.wrong.specs.WrongLine.{takes_data_for_stop, never_records_sent, switch_off_drops_go, withholds_go_when_off}
use Rattle.wrong.specs.WrongAsks.{takes_any_byte, refuses_the_next}
use Rattle.wrong.specs.Broken.{Breaks}
use Rattle.wrong.proofs.Computing.{computes}
use Rattle.wrong.proofs.Written.{Turn, comes_in, Does, leaves}
use Rattle.wrong.proofs.Trying.{in_since, in_between}

-- ---- the last of go and stop that was sent

-- the data byte 19 is taken
pub takes_data_for_stop_falls : Breaks takes_data_for_stop LastKept
unfolding computes
takes_data_for_stop_falls law =
    true≢false (rw (holds (begun_with 19) 0 1 refl) at (law (on (take_line_byte 19) ∷ []) (one_for_the_line 19) tt (omega arith, tt) refl))

-- our own 19 is taken
pub never_records_sent_falls : Breaks never_records_sent LastKept
unfolding computes
never_records_sent_falls law = false≢true (law (on (take_line_byte 19) ∷ []) (came_in 3 true false) tt (omega arith, tt) refl)

-- a reset where stop was the last
pub never_records_sent_falls_since : Breaks never_records_sent LastSince
unfolding computes
never_records_sent_falls_since law = true≢false (law (on reset) [] (came_in 3 true true) tt tt tt refl refl)

-- ---- an owed go

-- from a reset three bytes come in, and stop is due
three_came : List Turn
three_came = comes_in 49 (came_in 1 false false) ∷ comes_in 50 (came_in 2 false false) ∷ comes_in 51 (came_in 3 true false) ∷ []

-- then stop is sent, and the protocol is switched off; k is whether stop is still known to be the last
stopped_off : Bool → List Turn
stopped_off k = three_came ++ (leaves (take_line_byte 19) done (came_in 3 true true) ∷ leaves (write 11 0) done (switched_off (came_in 3 false k)) ∷ [])

abbrev fresh : World
fresh = came_in 0 false false

begins : Turn
begins = leaves reset done fresh

switch_off_drops_go_runs : Does switch_off_drops_go fresh (begins ∷ stopped_off false)
unfolding computes begins three_came stopped_off
switch_off_drops_go_runs = (refl, (rw (no_round 4 0 refl), (rw (no_round 4 1 refl), (rw (no_round 4 2 refl), (refl, (refl, tt))))))

withholds_go_when_off_runs : Does withholds_go_when_off fresh (begins ∷ stopped_off true)
unfolding computes begins three_came stopped_off
withholds_go_when_off_runs = (refl, (rw (no_round 4 0 refl), (rw (no_round 4 1 refl), (rw (no_round 4 2 refl), (refl, (refl, tt))))))

-- stop was the last, and is not known to be
pub switch_off_drops_go_falls : Breaks switch_off_drops_go LastSince
unfolding computes begins three_came stopped_off
switch_off_drops_go_falls law =
    false≢true (in_since switch_off_drops_go LastSince fresh begins (stopped_off false) switch_off_drops_go_runs refl law refl refl)

-- nothing is said to be next, where go is owed
pub switch_off_drops_go_stays_silent : Breaks switch_off_drops_go OwnNext
unfolding computes begins three_came stopped_off
switch_off_drops_go_stays_silent law =
    answers_differ _ _ refl
    ((in_between switch_off_drops_go OwnNext fresh begins (stopped_off false) (on ask_line_byte) switch_off_drops_go_runs refl law
    refl refl refl).asked refl)

pub withholds_go_when_off_stays_silent : Breaks withholds_go_when_off OwnNext
unfolding computes begins three_came stopped_off
withholds_go_when_off_stays_silent law =
    answers_differ _ _ refl
    ((in_between withholds_go_when_off OwnNext fresh begins (stopped_off true) (on ask_line_byte) withholds_go_when_off_runs refl law
    refl refl refl).asked refl)

-- ---- a stop that is due, by what was taken since the reset

takes_any_byte_runs : Does takes_any_byte fresh (begins ∷ three_came)
unfolding computes begins three_came
takes_any_byte_runs = (refl, (rw (no_round 4 0 refl), (rw (no_round 4 1 refl), (rw (no_round 4 2 refl), tt))))

refuses_the_next_runs : Does refuses_the_next fresh (begins ∷ three_came)
unfolding computes begins three_came
refuses_the_next_runs = (refl, (rw (no_round 4 0 refl), (rw (no_round 4 1 refl), (rw (no_round 4 2 refl), tt))))

-- "A" is taken
pub takes_any_byte_for_stop : Breaks takes_any_byte OwnNext
unfolding computes begins three_came
takes_any_byte_for_stop law =
    answers_differ _ _ refl
    ((in_between takes_any_byte OwnNext fresh begins three_came (on (take_line_byte 65)) takes_any_byte_runs refl law
    refl refl refl).other 65 refl (λ e. numbers_differ _ _ refl e))

-- stop is refused
pub refuses_the_next_stop : Breaks refuses_the_next OwnNext
unfolding computes begins three_came
refuses_the_next_stop law =
    answers_differ _ _ refl
    ((in_between refuses_the_next OwnNext fresh begins three_came (on (take_line_byte 19)) refuses_the_next_runs refl law
    refl refl refl).own 19 refl refl)
