-- Bridges whose ask or take is wrong. Assumes nothing.
use Prim.Native.Nat.{ℕ}
use native.Mathlib.Omega.{arith}
use mathlib.Core.Path.{◌≡◌, refl, ap}
use mathlib.Core.Bool.{false≢true, true≢false}
use mathlib.Core.List.{List, [], ◌∷◌, ◌++◌}
use Rattle.answers.specs.Answers.{done, none, byte}
use Rattle.state.specs.declared.State.{State}
use Rattle.bridge.specs.Calls.{line_byte, ask_line_byte, take_line_byte, Call, on, World}
use Rattle.registers.specs.Writing.{written}
use Rattle.state.specs.State.{with_registers, with_rx}
use Rattle.laws.specs.Bridges.{Saw, bridge}
use Rattle.laws.specs.AsksLeftOut.{without_asks, seen_without_asks, AsksLeftOut}
use Rattle.laws.specs.LineBytes.{LineKept}
use Rattle.laws.specs.LastSent.{LastKept}
use Rattle.laws.specs.NextByte.{next_byte, NextAsked, TakesNext}
use Rattle.laws.specs.AskThenTake.{AskLooks, AsksAlike, TakesAsAsked, GoneAsGiven, AskThenTake}
use Rattle.refuting.proofs.Apart.{numbers_differ, lists_differ, spelled, answers_differ}
use Rattle.refuting.proofs.StandsIn.{holds, no_round}
use Rattle.refuting.specs.SmallRings.{ring}
use Rattle.wrong.specs.Seeing.{having}
use Rattle.wrong.specs.SmallWorlds.{misfitting}
use Rattle.wrong.specs.Trials.{one_to_four, begun_with, one_for_the_line, gone_from_line, stop_is_due}
use Rattle.wrong.specs.WrongLine.{stuttering, never_records_sent}
use Rattle.wrong.specs.WrongStores.{wiping}
use Rattle.wrong.specs.WrongAsks.{ask_removes, counts_an_ask, asks_of_misfit, refuses_for_none, takes_any_byte, takes_of_nothing, takes_held_when_due}
use Rattle.wrong.specs.WrongAsks.{takes_data_for_own, refuses_the_next, twelve_before_two, refused_take_removes, take_begins_none, take_breaks}
use Rattle.wrong.specs.WrongAsks.{goes_by_its_ask}
use Rattle.wrong.specs.Broken.{Breaks, BreaksAs}
use Rattle.wrong.proofs.Computing.{computes}
use Rattle.wrong.proofs.Written.{Turn, Does, leaves}
use Rattle.wrong.proofs.Trying.{in_run, in_between}

-- ---- what is seen of a world

abbrev held_bytes : World → ℕ
held_bytes w = w.state.tx.len

-- ---- asks

-- "A" was held, and is not after an ask
pub ask_removes_falls : Breaks ask_removes AskLooks
unfolding computes
ask_removes_falls law = numbers_differ _ _ refl (rw (holds (begun_with 65) 0 1 refl) at (ap held_bytes (law (on ask_line_byte) (one_for_the_line 65) tt refl)))

-- stop is due, and counts as sent when it was asked for
pub counts_an_ask_falls : Breaks counts_an_ask AskLooks
unfolding computes
counts_an_ask_falls law = true≢false (ap (λ (w : World). w.state.line.stopped) (law (on ask_line_byte) (stop_is_due (one_for_the_line 65)) tt refl))

-- an ask removes "A"
abbrev removes_a : Turn
removes_a = leaves ask_line_byte (byte 65) (gone_from_line 65)

ask_removes_runs : Does ask_removes (one_for_the_line 65) (removes_a ∷ [])
unfolding computes
ask_removes_runs = (rw (holds (begun_with 65) 0 1 refl, no_round 3 1 refl), tt)

-- and the second ask says none
pub ask_removes_asked_again : Breaks ask_removes AsksAlike
unfolding computes
ask_removes_asked_again law =
    answers_differ _ _ refl (in_between ask_removes AsksAlike (one_for_the_line 65) removes_a [] (on ask_line_byte) ask_removes_runs refl law refl refl refl)

-- the second ask says "A", where stop is due
pub counts_an_ask_asked_again : Breaks counts_an_ask AsksAlike
unfolding computes
counts_an_ask_asked_again law =
    answers_differ _ _ refl
    (rw (holds (begun_with 65) 0 1 refl) at (law (on ask_line_byte) [] (on ask_line_byte) (stop_is_due (one_for_the_line 65)) tt tt tt refl refl refl))

-- an ask is refused, where it should say none
pub refuses_for_none_falls : Breaks refuses_for_none NextAsked
unfolding computes
refuses_for_none_falls law = answers_differ _ _ refl (rw (holds (begun_with 65) 1 0 refl) at ((law (on ask_line_byte) (gone_from_line 65) tt refl).fit refl))

-- an ask says none, where it should be refused
pub asks_of_misfit_falls : Breaks asks_of_misfit NextAsked
unfolding computes
asks_of_misfit_falls law = answers_differ _ _ refl ((law (on ask_line_byte) misfitting tt refl).misfit false≢true)

-- "A" is neither handed out nor held
pub ask_removes_loses : Breaks ask_removes LineKept
unfolding computes
ask_removes_loses law =
    lists_differ _ _ refl
    (rw (holds (begun_with 65) 0 1 refl, holds (begun_with 65) 1 0 refl) at
    (in_run ask_removes LineKept (one_for_the_line 65) (removes_a ∷ []) ask_removes_runs refl law refl))

-- stop is recorded as the last that was sent, and was only asked for
pub counts_an_ask_records : Breaks counts_an_ask LastKept
unfolding computes
counts_an_ask_records law = true≢false (law (on ask_line_byte ∷ []) (stop_is_due (one_for_the_line 65)) tt (tt, tt) refl)

-- ---- takes

-- "A" is next, and "B" is not
not_b : next_byte (one_for_the_line 65) ≡ byte 66 → ⊥
unfolding computes
not_b e = answers_differ _ _ refl (rw (holds (begun_with 65) 0 1 refl) at e)

-- stop is next, and "A" is not
not_a : next_byte (stop_is_due (one_for_the_line 65)) ≡ byte 65 → ⊥
unfolding computes
not_a e = answers_differ _ _ refl e

none_next : next_byte (gone_from_line 65) ≡ byte 0 → ⊥
unfolding computes
none_next e = answers_differ _ _ refl (rw (holds (begun_with 65) 1 0 refl) at e)

a_not_b : byte 65 ≡ byte 66 → ⊥
a_not_b e = answers_differ _ _ refl e

is_a : next_byte (one_for_the_line 65) ≡ byte 65
unfolding computes
is_a = rw (holds (begun_with 65) 0 1 refl)

-- "B" is named, and "A" is gone
pub takes_any_byte_falls : Breaks takes_any_byte TakesNext
unfolding computes
takes_any_byte_falls law =
    answers_differ _ _ refl
    (rw (holds (begun_with 65) 0 1 refl) at ((law (on (take_line_byte 66)) (one_for_the_line 65) tt 66 refl).other refl not_b))

-- "A" is taken, where stop is due
pub takes_held_when_due_falls : Breaks takes_held_when_due TakesNext
unfolding computes
takes_held_when_due_falls law =
    answers_differ _ _ refl
    (rw (holds (begun_with 65) 0 1 refl) at ((law (on (take_line_byte 65)) (stop_is_due (one_for_the_line 65)) tt 65 refl).other refl not_a))

-- the same by what was said before stop became due
pub goes_by_its_ask_falls : BreaksAs goes_by_its_ask TakesNext
unfolding computes
goes_by_its_ask_falls law =
    answers_differ _ _ refl
    (rw (holds (begun_with 65) 0 1 refl) at
    ((law (on (take_line_byte 65)) (record { world = stop_is_due (one_for_the_line 65); said_last = byte 65 }) tt 65 refl).other refl not_a))

-- 0 is taken, where nothing is next
pub takes_of_nothing_falls : Breaks takes_of_nothing TakesNext
unfolding computes
takes_of_nothing_falls law =
    answers_differ _ _ refl
    ((law (on (take_line_byte 0)) (gone_from_line 65) tt 0 refl).other refl none_next)

-- "A" is taken for the stop that is due
pub takes_data_for_own_falls : Breaks takes_data_for_own LastKept
unfolding computes
takes_data_for_own_falls law =
    true≢false (rw (holds (begun_with 65) 0 1 refl) at (law (on (take_line_byte 65) ∷ []) (stop_is_due (one_for_the_line 65)) tt (omega arith, tt) refl))

-- "A" is refused
pub refuses_the_next_falls : Breaks refuses_the_next TakesNext
unfolding computes
refuses_the_next_falls law =
    answers_differ _ _ refl
    (rw (holds (begun_with 65) 0 1 refl) at ((law (on (take_line_byte 65)) (one_for_the_line 65) tt 65 refl).next refl is_a))

-- 12 is answered of a state that does not fit
pub twelve_before_two_falls : Breaks twelve_before_two TakesNext
unfolding computes
twelve_before_two_falls law = answers_differ _ _ refl ((law (on (take_line_byte 0)) misfitting tt 0 refl).misfit false≢true)

-- "B" is refused, and "A" is gone
pub refused_take_removes_falls : Breaks refused_take_removes TakesNext
unfolding computes
refused_take_removes_falls law =
    numbers_differ _ _ refl
    (rw (holds (begun_with 65) 0 1 refl) at (ap held_bytes ((law (on (take_line_byte 66)) (one_for_the_line 65) tt 66 refl).stays not_b)))

-- ---- what take accepts is what ask says

-- an ask says "A" and changes nothing
abbrev says_a : Turn
says_a = leaves ask_line_byte (byte 65) (one_for_the_line 65)

-- "B" is taken
pub takes_any_byte_unasked : Breaks takes_any_byte TakesAsAsked
unfolding computes
takes_any_byte_unasked law =
    answers_differ _ _ refl
    (rw (holds (begun_with 65) 0 1 refl) at
    ((in_between takes_any_byte TakesAsAsked (one_for_the_line 65) says_a [] (on (take_line_byte 66))
    (rw (holds (begun_with 65) 0 1 refl), tt) refl law 66 refl refl refl
    ).other refl a_not_b))

-- "A" is refused
pub refuses_the_next_asked : Breaks refuses_the_next TakesAsAsked
unfolding computes
refuses_the_next_asked law =
    answers_differ _ _ refl
    (rw (holds (begun_with 65) 0 1 refl) at
    ((in_between refuses_the_next TakesAsAsked (one_for_the_line 65) says_a [] (on (take_line_byte 65))
    (rw (holds (begun_with 65) 0 1 refl), tt) refl law 65 refl refl refl
    ).same refl))

-- an ask has removed "A", and its take is refused
pub ask_removes_then_refuses : Breaks ask_removes TakesAsAsked
unfolding computes
ask_removes_then_refuses law =
    answers_differ _ _ refl
    ((in_between ask_removes TakesAsAsked (one_for_the_line 65) removes_a [] (on (take_line_byte 65)) ask_removes_runs refl law 65 refl refl refl).same refl)

-- "B" is refused, and "A" is gone
pub refused_take_removes_asked : Breaks refused_take_removes TakesAsAsked
unfolding computes
refused_take_removes_asked law =
    numbers_differ _ _ refl
    (rw (holds (begun_with 65) 0 1 refl) at (ap held_bytes
    ((in_between refused_take_removes TakesAsAsked (one_for_the_line 65) says_a [] (on (take_line_byte 66))
    (rw (holds (begun_with 65) 0 1 refl), tt) refl law 66 refl refl refl
    ).stays a_not_b)))

-- the ask is refused with 2, and the take with 12
pub twelve_before_two_asked : Breaks twelve_before_two TakesAsAsked
unfolding computes
twelve_before_two_asked law = answers_differ _ _ refl ((law (on ask_line_byte) [] (on (take_line_byte 0)) misfitting tt tt tt 0 refl refl refl).alike refl)

-- ---- an ask and its take are what giving was

-- "A" is still held
pub stuttering_falls_asked : Breaks stuttering AskThenTake
unfolding computes
stuttering_falls_asked law =
    numbers_differ _ _ refl
    (rw (holds (begun_with 65) 0 1 refl) at (ap (λ (s : State). s.tx.len)
    (in_between stuttering AskThenTake (one_for_the_line 65) says_a [] (on (take_line_byte 65))
    (rw (holds (begun_with 65) 0 1 refl), tt) refl law 65 refl refl refl refl
    ).state))

-- stop is due and the byte held is equal to it: the byte held is gone, and stop is still due
pub takes_held_when_due_falls_asked : Breaks takes_held_when_due AskThenTake
unfolding computes
takes_held_when_due_falls_asked law =
    numbers_differ _ _ refl
    (rw (holds (begun_with 19) 0 1 refl) at (ap (λ (s : State). s.tx.len)
    (law (on ask_line_byte) [] (on (take_line_byte 19)) (stop_is_due (one_for_the_line 19)) tt tt tt 19 refl refl refl refl).state))

-- stop is taken and not recorded
pub never_records_sent_falls_asked : Breaks never_records_sent AskThenTake
unfolding computes
never_records_sent_falls_asked law =
    false≢true (ap (λ (s : State). s.line.stopped)
    (law (on ask_line_byte) [] (on (take_line_byte 19)) (stop_is_due (one_for_the_line 65)) tt tt tt 19 refl refl refl refl).state)

-- ---- a take that is done is what giving was

-- "A" is still held
pub stuttering_falls_taken : Breaks stuttering GoneAsGiven
unfolding computes
stuttering_falls_taken law =
    numbers_differ _ _ refl
    (rw (holds (begun_with 65) 0 1 refl) at (ap (λ (s : State). s.tx.len) (law (on (take_line_byte 65)) (one_for_the_line 65) tt 65 refl taken_a).state))
  where
    taken_a : (stuttering (on (take_line_byte 65)) (one_for_the_line 65)).said ≡ done
    taken_a = rw (holds (begun_with 65) 0 1 refl)

-- stop is taken and not recorded
pub never_records_sent_falls_taken : Breaks never_records_sent GoneAsGiven
unfolding computes
never_records_sent_falls_taken law =
    false≢true (ap (λ (s : State). s.line.stopped) (law (on (take_line_byte 19)) (stop_is_due (one_for_the_line 65)) tt 19 refl refl).state)

-- "B" is taken, and "A" was next
pub takes_any_byte_not_given : Breaks takes_any_byte GoneAsGiven
unfolding computes
takes_any_byte_not_given law = not_b (law (on (take_line_byte 66)) (one_for_the_line 65) tt 66 refl taken_b).next
  where
    taken_b : (takes_any_byte (on (take_line_byte 66)) (one_for_the_line 65)).said ≡ done
    taken_b = rw (holds (begun_with 65) 0 1 refl)

-- the place of "A" is written
pub wiping_falls_taken : Breaks wiping GoneAsGiven
unfolding computes
wiping_falls_taken law =
    lists_differ _ _ refl (rw (holds (begun_with 65) 0 1 refl) at (law (on (take_line_byte 65)) (one_for_the_line 65) tt 65 refl taken_a).tx)
  where
    taken_a : (wiping (on (take_line_byte 65)) (one_for_the_line 65)).said ≡ done
    taken_a = rw (holds (begun_with 65) 0 1 refl)

-- stop is taken, and the newest byte from the line is marked
pub take_breaks_falls : Breaks take_breaks GoneAsGiven
unfolding computes
take_breaks_falls law =
    lists_differ _ _ refl (rw (holds one_to_four 0 3 refl, no_round 4 2 refl) at (law (on (take_line_byte 19)) (stop_is_due (one_for_the_line 65)) tt 19 refl refl).rx)

-- the store comes to be empty, which is enabled, and no request begins
pub take_begins_none_falls : Breaks take_begins_none GoneAsGiven
unfolding computes
take_begins_none_falls law =
    false≢true (rw (holds (begun_with 65) 0 1 refl, no_round 3 1 refl, holds (begun_with 65) 1 0 refl) at
    (ap (λ (s : State). s.notes.request) (law (on (take_line_byte 65)) enabled tt 65 refl taken_a).state))
  where
    enabled : World
    enabled = having (λ s. with_registers s (written s.regs 1 1)) (one_for_the_line 65)

    taken_a : (take_begins_none (on (take_line_byte 65)) enabled).said ≡ done
    taken_a = rw (holds (begun_with 65) 0 1 refl)

-- ---- asks in between change nothing

-- the answers that are seen, spelled out
answers_of : List Saw → List ℕ
answers_of [] = []
answers_of (s ∷ ss) = spelled s.answer ++ answers_of ss

-- "A" is refused without the ask, and taken with it
pub goes_by_its_ask_heeds_asks : AsksLeftOut goes_by_its_ask → ⊥
unfolding computes answers_of without_asks seen_without_asks
goes_by_its_ask_heeds_asks law =
    lists_differ _ _ refl
    (rw (holds (begun_with 65) 0 1 refl, no_round 4 2 refl) at
    (ap answers_of (law asked (record { world = two_came; said_last = none }) tt (tt, (omega arith, (omega arith, tt)))).seen))
  where
    two_came : World
    two_came = having (λ s. with_rx s (ring 4 0 2)) (one_for_the_line 65)

    asked : List Call
    asked = on ask_line_byte ∷ on (line_byte 51) ∷ on (take_line_byte 65) ∷ []

-- "A" is taken without the ask, and refused with it
pub ask_removes_heeds_asks : AsksLeftOut (bridge ask_removes) → ⊥
unfolding computes answers_of without_asks seen_without_asks
ask_removes_heeds_asks law =
    lists_differ _ _ refl
    (rw (holds (begun_with 65) 0 1 refl, no_round 3 1 refl) at
    (ap answers_of (law (on ask_line_byte ∷ on (take_line_byte 65) ∷ []) (one_for_the_line 65) tt (tt, (omega arith, tt))).seen))
