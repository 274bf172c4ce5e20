-- Bridges that send wrongly from the receive store, each refuted by one call. Assumes nothing.
use Prim.Native.Nat.{ℕ, ◌%◌}
use native.Mathlib.Omega.{arith}
use mathlib.Core.Path.{◌≡◌, refl, sym, ap, ◌∙◌}
use mathlib.Core.Bool.{true≢false}
use mathlib.Core.List.{List, [], ◌∷◌}
use lib.ListN.{get_or}
use Rattle.frame.specs.Frame.{made}
use Rattle.store.specs.Ring.{Fit, held}
use Rattle.reading.specs.Received.{received, received_in}
use Rattle.store.proofs.Laws.{held_at, wrap_high}
use Rattle.bridge.specs.Calls.{on, line_byte, key, loop_frame}
use Rattle.laws.specs.SendRule.{SendRule, NoneRemoved}
use Rattle.laws.specs.Resuming.{EmptySendResumes}
use Rattle.refuting.specs.SmallRings.{ring}
use Rattle.refuting.proofs.Apart.{lists_differ, numbers_differ}
use Rattle.refuting.proofs.StandsIn.{holds, no_round}
use Rattle.wrong.specs.Trials.{full, full_of, two_lines, pair_after_line, pair_first, undecided, send_data}
use Rattle.wrong.specs.WrongSends.{silent, passes_all, tired, ends_nothing, removes_pairs_behind, removes_pairs_always, keeps_pairs_at_none, holds_on_at_none}
use Rattle.wrong.specs.WrongSends.{drops_oldest_when_full, command_empties}
use Rattle.wrong.specs.Broken.{Breaks, BreaksAs}
use Rattle.wrong.proofs.Computing.{computes}
use Rattle.wrong.proofs.Ends.{numbered}
use Rattle.wrong.proofs.Small.{full_holds, undecided_holds}

-- ---- a send

-- nothing is sent, where 2,49 is the first frame
pub silent_falls : Breaks silent SendRule
unfolding computes
silent_falls law = lists_differ _ _ refl (rw full_holds at (law (on (loop_frame send_data)) full tt send_data refl (rw full_holds) refl).first)

-- nothing is sent: ready 96 goes on
pub passes_all_falls : Breaks passes_all SendRule
unfolding computes
passes_all_falls law = lists_differ _ _ refl (rw full_holds at (law (on (loop_frame send_data)) full tt send_data refl refl refl).first)

-- at its second call, where one was made before
pub tired_falls : BreaksAs tired SendRule
unfolding computes
tired_falls law =
    lists_differ _ _ refl
    (rw full_holds at (law (on (loop_frame send_data)) (record { world = full; calls = 1 }) tt send_data refl (rw full_holds) refl).first)

-- 0,49 is sent
pub ends_nothing_falls : Breaks ends_nothing SendRule
unfolding computes
ends_nothing_falls law =
    lists_differ _ _ refl (rw full_holds at (law (on (loop_frame send_data)) full tt send_data refl (rw full_holds) refl).first)

-- the pair behind the first line is gone too
pub removes_pairs_behind_falls : Breaks removes_pairs_behind SendRule
unfolding computes
removes_pairs_behind_falls law =
    lists_differ _ _ refl
    (ap numbered
    (rw (holds pair_after_line 0 6 refl, no_round 6 3 refl, holds pair_after_line 3 3 refl, no_round 6 5 refl, holds pair_after_line 5 1 refl)
    at (law (on (loop_frame send_data)) (full_of pair_after_line) tt send_data refl (rw (holds pair_after_line 0 6 refl)) refl).rest))

-- the pair is still held after 5,64
pub keeps_pairs_at_none_falls : Breaks keeps_pairs_at_none SendRule
unfolding computes
keeps_pairs_at_none_falls law =
    lists_differ _ _ refl
    (ap numbered
    (rw (undecided_holds, undecided_holds)
    at (law (on (loop_frame send_data)) undecided tt send_data refl (rw undecided_holds) refl).rest))

-- ---- a send that gives no frame leaves one byte in four, and the line is still held off

pub keeps_pairs_at_none_stays_off : Breaks keeps_pairs_at_none EmptySendResumes
unfolding computes
keeps_pairs_at_none_stays_off law =
    true≢false
    (rw undecided_holds at (law (on (loop_frame send_data)) undecided tt send_data refl (rw undecided_holds) refl (rw undecided_holds)))

pub holds_on_at_none_falls : Breaks holds_on_at_none EmptySendResumes
unfolding computes
holds_on_at_none_falls law =
    true≢false
    (rw undecided_holds at (law (on (loop_frame send_data)) undecided tt send_data refl (rw undecided_holds) refl (rw undecided_holds)))

-- ---- a call that is no send

-- the key is pressed, and the pair is gone
pub removes_pairs_always_falls : Breaks removes_pairs_always NoneRemoved
unfolding computes
removes_pairs_always_falls law =
    lists_differ _ _ refl
    (ap numbered
    (rw (holds pair_first 0 4 refl, no_round 4 2 refl, holds pair_first 2 2 refl) at (law (on key) (full_of pair_first) tt tt refl refl)))

-- "3" comes to the full store, where nothing is accepted, and is held in the place of "1"
displaced : List ℕ
displaced = 51 ∷ 13 ∷ 10 ∷ 50 ∷ 13 ∷ 10 ∷ []

-- the oldest byte that cells stand for
first_byte : (l : List ℕ) → get_or (numbered (received_in l)) 0 0 ≡ get_or l 0 0 % 256
unfolding received
first_byte [] = refl
first_byte (x ∷ l) = refl

displaced_fits : Fit displaced (ring 6 1 6)
unfolding displaced
displaced_fits = record { cap = refl; within = record { oldest = omega arith; len = omega arith; small = omega arith } }

pub drops_oldest_when_full_falls : Breaks drops_oldest_when_full NoneRemoved
unfolding computes displaced
drops_oldest_when_full_falls law =
    numbers_differ _ _ refl
    (ap (λ n. n % 256) (sym (held_at displaced (ring 6 1 6) 0 displaced_fits (omega arith) ∙ ap (λ p. get_or displaced p 0) (no_round 6 1 refl)))
    ∙ sym (first_byte (held displaced (ring 6 1 6)))
    ∙ ap (λ l. get_or (numbered l) 0 0) (rw (full_holds, no_round 6 1 refl, wrap_high 6 6 (omega arith)) at (law (on (line_byte 51)) full tt (omega arith) refl refl)))

-- another device is addressed, and all is gone
pub command_empties_falls : Breaks command_empties NoneRemoved
unfolding computes
command_empties_falls law =
    lists_differ _ _ refl (ap numbered (rw (full_holds, holds two_lines 0 0 refl) at (law (on (loop_frame (made 4 70))) full tt tt refl refl)))
