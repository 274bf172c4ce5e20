-- Bridges that go round wrongly, or write at other places since a clear, each refuted on a store of three or four places. Assumes nothing.
use Prim.Native.Nat.{ℕ}
use mathlib.Core.Path.{refl}
use mathlib.Core.Bool.{true, false, false≢true}
use mathlib.Core.List.{List, [], ◌∷◌}
use Rattle.frame.specs.Frame.{made}
use Rattle.answers.specs.Answers.{done, frame}
use Rattle.state.specs.State.{with_rx, with_tx}
use Rattle.bridge.specs.Calls.{receive, transmit, World, world, on, ask_line_byte, take_line_byte, loop_frame}
use Rattle.laws.specs.Fitting.{KeepsFit}
use Rattle.laws.specs.NextByte.{NextAsked}
use Rattle.laws.specs.StorePlaces.{PlacesSince}
use Rattle.refuting.specs.SmallRings.{ring}
use Rattle.refuting.proofs.Apart.{lists_differ, answers_differ}
use Rattle.refuting.proofs.StandsIn.{holds, no_round, goes_round}
use Rattle.wrong.specs.Seeing.{having}
use Rattle.wrong.specs.Trials.{one_to_four, came_in, talker_came_in, one_gone, listener_adding_ends, begun_with, clear_all, send_data}
use Rattle.wrong.specs.WrongStores.{round_late, round_masked, round_to_second, compares_once, oldest_late, reads_across, clears_in_place, wiping}
use Rattle.wrong.specs.Broken.{Breaks}
use Rattle.wrong.proofs.Computing.{computes}
use Rattle.wrong.proofs.Written.{Turn, comes_in, Does, leaves}
use Rattle.wrong.proofs.Trying.{in_since}

-- ---- the receive store

-- "1" to "4" come in after a device clear, "1" goes as 0,49, and "5" comes
abbrev cleared : Turn
cleared = leaves (loop_frame clear_all) (frame 4 20) (talker_came_in 0 false)

fifth_came : List Turn
fifth_came =
    comes_in 49 (talker_came_in 1 false)
    ∷ comes_in 50 (talker_came_in 2 false)
    ∷ comes_in 51 (talker_came_in 3 true)
    ∷ comes_in 52 (talker_came_in 4 true)
    ∷ leaves (loop_frame send_data) (frame 0 49) (one_gone 4 3 true)
    ∷ comes_in 53 (one_gone 5 4 true)
    ∷ []

round_late_runs : Does round_late (talker_came_in 0 false) (cleared ∷ fifth_came)
unfolding computes fifth_came
round_late_runs = (refl, (refl, (refl, (refl, (refl, (rw (holds one_to_four 0 4 refl, no_round 4 1 refl), (refl, tt)))))))

-- "5" counts as stored, and stands nowhere
pub round_late_falls : Breaks round_late (PlacesSince receive)
unfolding computes fifth_came
round_late_falls law =
    lists_differ _ _ refl (in_since round_late (PlacesSince receive) (talker_came_in 0 false) cleared fifth_came round_late_runs refl law refl refl)

-- "1" and "2" came in, a device clear comes, and then "<"
abbrev cleared_in_place : Turn
cleared_in_place = leaves (loop_frame clear_all) (frame 4 20) (having (λ s. with_rx s (ring 4 2 0)) (came_in 2 false false))

one_more : List Turn
one_more = comes_in 60 (world (with_rx (came_in 3 false false).state (ring 4 2 1)) (49 ∷ 50 ∷ 60 ∷ 52 ∷ []) (0 ∷ 0 ∷ 0 ∷ [])) ∷ []

clears_in_place_runs : Does clears_in_place (came_in 2 false false) (cleared_in_place ∷ one_more)
unfolding computes one_more
clears_in_place_runs = (rw (no_round 4 2 refl), (rw (no_round 4 2 refl), tt))

-- it goes behind them, and not to place 0
pub clears_in_place_goes_on : Breaks clears_in_place (PlacesSince receive)
unfolding computes one_more
clears_in_place_goes_on law =
    lists_differ _ _ refl
    (in_since clears_in_place (PlacesSince receive) (came_in 2 false false) cleared_in_place one_more clears_in_place_runs refl law refl refl)

-- ---- the transmit store

-- "B" goes where "A" is held
pub round_masked_falls : Breaks round_masked (PlacesSince transmit)
unfolding computes
round_masked_falls law =
    lists_differ _ _ refl
    (law (on (loop_frame clear_all)) (on (loop_frame 65) ∷ on (loop_frame 66) ∷ []) listener_adding_ends tt tt (tt, (tt, tt)) refl refl)

-- a listener whose transmit store holds n bytes from the place p on, and the device clear that empties it
abbrev listener_holding : List ℕ → ℕ → ℕ → World
listener_holding bs p n = having (λ s. with_tx s (ring 3 p n)) (world listener_adding_ends.state one_to_four bs)

cleared_for_line : Turn
cleared_for_line = leaves (loop_frame clear_all) (frame 4 20) (listener_holding (begun_with 0) 0 0)

-- "A" comes and is handed out
abbrev one_handed : List Turn
one_handed =
    leaves (loop_frame 65) (frame 0 65) (listener_holding (begun_with 65) 0 1) ∷ leaves (take_line_byte 65) done (listener_holding (begun_with 0) 1 0) ∷ []

wiping_runs : Does wiping (listener_holding (begun_with 0) 0 0) (cleared_for_line ∷ one_handed)
unfolding computes cleared_for_line
wiping_runs = (refl, (rw (no_round 3 0 refl), (rw (holds (begun_with 65) 0 1 refl, no_round 3 1 refl), tt)))

-- and 0 stands in its place
pub wiping_wipes : Breaks wiping (PlacesSince transmit)
unfolding computes cleared_for_line
wiping_wipes law =
    lists_differ _ _ refl
    (in_since wiping (PlacesSince transmit) (listener_holding (begun_with 0) 0 0) cleared_for_line one_handed wiping_runs refl law refl refl)

-- "A", "B" and "C" come, "A" is handed out, and "D" comes
fourth_came : List Turn
fourth_came =
    leaves (loop_frame 65) (frame 0 65) (listener_holding (begun_with 65) 0 1)
    ∷ leaves (loop_frame 66) (frame 0 66) (listener_holding (65 ∷ 66 ∷ 0 ∷ []) 0 2)
    ∷ leaves (loop_frame 67) (frame 0 67) (listener_holding (65 ∷ 66 ∷ 67 ∷ []) 0 3)
    ∷ leaves (take_line_byte 65) done (listener_holding (65 ∷ 66 ∷ 67 ∷ []) 1 2)
    ∷ leaves (loop_frame 68) (frame 0 68) (listener_holding (65 ∷ 68 ∷ 67 ∷ []) 1 3)
    ∷ []

round_to_second_runs : Does round_to_second (listener_holding (begun_with 0) 0 0) (cleared_for_line ∷ fourth_came)
unfolding computes cleared_for_line fourth_came
round_to_second_runs =
    (refl, (refl, (refl, (refl, (rw (holds (65 ∷ 66 ∷ 67 ∷ []) 0 3 refl, no_round 3 1 refl), (refl, tt))))))

-- "D" goes where "B" is held
pub round_to_second_falls : Breaks round_to_second (PlacesSince transmit)
unfolding computes cleared_for_line fourth_came
round_to_second_falls law =
    lists_differ _ _ refl
    (in_since round_to_second (PlacesSince transmit) (listener_holding (begun_with 0) 0 0) cleared_for_line fourth_came round_to_second_runs refl law
    refl refl)

-- "A" comes and is handed out, and "B" comes as an end byte
across_the_end : List Turn
across_the_end =
    leaves (loop_frame 65) (frame 0 65) (listener_holding (begun_with 65) 0 1)
    ∷ leaves (take_line_byte 65) done (listener_holding (begun_with 65) 1 0)
    ∷ leaves (loop_frame (made 2 66)) (frame 2 66) (listener_holding (65 ∷ 66 ∷ 13 ∷ []) 1 3)
    ∷ []

compares_once_runs : Does compares_once (listener_holding (begun_with 0) 0 0) (cleared_for_line ∷ across_the_end)
unfolding computes cleared_for_line across_the_end
compares_once_runs = (refl, (refl, (rw (holds (begun_with 65) 0 1 refl, no_round 3 1 refl), (refl, tt))))

-- C03 stands nowhere
pub compares_once_falls : Breaks compares_once (PlacesSince transmit)
unfolding computes cleared_for_line across_the_end
compares_once_falls law =
    lists_differ _ _ refl
    (in_since compares_once (PlacesSince transmit) (listener_holding (begun_with 0) 0 0) cleared_for_line across_the_end compares_once_runs refl law
    refl refl)

-- ---- what a ring that goes round wrongly breaks besides: the state fits no more, and a byte is said to be next that is not the oldest

-- the byte at the last place is handed out, and the next is at place 3 of three
pub oldest_late_falls : Breaks oldest_late KeepsFit
unfolding computes
oldest_late_falls law =
    false≢true
    (rw (holds (65 ∷ 66 ∷ 67 ∷ []) 2 1 refl, goes_round 3 3 refl) at (law (on (take_line_byte 67)) (listener_holding (65 ∷ 66 ∷ 67 ∷ []) 2 1) tt refl))

-- "C" is at the last place, and "A" is said to be next
pub reads_across_falls : Breaks reads_across NextAsked
unfolding computes
reads_across_falls law =
    answers_differ _ _ refl
    (rw (holds (65 ∷ 66 ∷ 67 ∷ []) 2 1 refl) at ((law (on ask_line_byte) (listener_holding (65 ∷ 66 ∷ 67 ∷ []) 2 1) tt refl).fit refl))
