-- Mailboxes that go round wrongly, or write other cells since a clear, each refuted by a run on a store of two cells. Assumes nothing.
use Prim.Native.Nat.{ℕ}
use native.Mathlib.Omega.{arith}
use mathlib.Core.Path.{refl}
use mathlib.Core.Bool.{false}
use mathlib.Core.List.{List, [], ◌∷◌}
use Rattle.news.specs.declared.News.{News}
use Rattle.news.specs.News.{no_news, come}
use Rattle.answers.specs.Answers.{done, frame, cell}
use Rattle.mailbox.specs.Calls.{Call, World, Did}
use Rattle.maillaws.specs.Sights.{to_bus, to_loop}
use Rattle.maillaws.specs.MailPlaces.{PlacesSince}
use Rattle.refuting.specs.SmallRings.{ring}
use Rattle.refuting.specs.WrittenOut.{Turn, Does}
use Rattle.refuting.proofs.Apart.{lists_differ}
use Rattle.refuting.proofs.StandsIn.{holds, no_round}
use Rattle.refuting.proofs.ByTurns.{in_since}
use Rattle.mailwrong.specs.Spoiling.{having, with_ring, with_news, with_cells, on_bus, as_role}
use Rattle.mailwrong.specs.MailTrials.{cells_for, role_at, leaver, reader, leaves, asks, clears}
use Rattle.mailwrong.specs.MailTurns.{mail, answers}
use Rattle.mailwrong.specs.SpoiltPlaces.{writes_high, leaves_late, leaves_at_second}
use Rattle.mailwrong.specs.BrokenMail.{Breaks}
use Rattle.mailwrong.proofs.MailComputing.{computes}

-- ---- the way to the bus

-- a listener on the loop and talker on the bus, with these cells in the way to the bus, of which n wait from the place p on
abbrev waiting_at : List ℕ → ℕ → ℕ → News → World
waiting_at cs p n told =
    with_cells to_bus cs (with_ring to_bus (ring 2 p n) (with_news to_bus told (having (λ s. on_bus (as_role (role_at 5 1 false)) s) (leaver to_bus))))

abbrev empty : World
empty = waiting_at (cells_for to_bus) 0 0 no_news

-- after a device clear "9" and ":" are left, the bus fetches "9", and ";" is left, with which the cells cs stand in the way
abbrev cleared : Turn Call Did
cleared = answers (clears to_bus) (frame 4 20) empty

third_left : List ℕ → List (Turn Call Did)
third_left cs =
    answers (leaves to_bus 57) (frame 0 57) (waiting_at (57 ∷ 55 ∷ []) 0 1 come)
    ∷ answers (leaves to_bus 58) (frame 0 58) (waiting_at (57 ∷ 58 ∷ []) 0 2 come)
    ∷ answers (asks to_bus) (cell 57) (waiting_at (57 ∷ 58 ∷ []) 1 1 come)
    ∷ answers (leaves to_bus 59) (frame 0 59) (waiting_at cs 1 2 come)
    ∷ []

leaves_late_runs : Does mail (leaves_late to_bus) empty (cleared ∷ third_left (57 ∷ 58 ∷ []))
unfolding computes third_left
leaves_late_runs = (refl, (refl, (refl, (rw (holds (57 ∷ 58 ∷ []) 0 2 refl, no_round 2 1 refl), (refl, tt)))))

-- ";" counts as left, and stands nowhere
pub leaves_late_falls : Breaks (leaves_late to_bus) (PlacesSince to_bus)
unfolding computes third_left
leaves_late_falls law =
    lists_differ _ _ refl
    (in_since mail (leaves_late to_bus) (PlacesSince to_bus) empty cleared (third_left (57 ∷ 58 ∷ [])) leaves_late_runs tt
    (tt, (tt, (tt, (tt, (tt, tt))))) law refl refl)

leaves_at_second_runs : Does mail (leaves_at_second to_bus) empty (cleared ∷ third_left (57 ∷ 59 ∷ []))
unfolding computes third_left
leaves_at_second_runs = (refl, (refl, (refl, (rw (holds (57 ∷ 58 ∷ []) 0 2 refl, no_round 2 1 refl), (refl, tt)))))

-- ";" goes where ":" waits
pub leaves_at_second_falls : Breaks (leaves_at_second to_bus) (PlacesSince to_bus)
unfolding computes third_left
leaves_at_second_falls law =
    lists_differ _ _ refl
    (in_since mail (leaves_at_second to_bus) (PlacesSince to_bus) empty cleared (third_left (57 ∷ 59 ∷ [])) leaves_at_second_runs tt
    (tt, (tt, (tt, (tt, (tt, tt))))) law refl refl)

-- ---- the way to the loop

-- a listener on the bus and talker on the loop, in this phase and with this frame under way, with these cells in the way to the loop, of
-- which n wait from the place p on
abbrev waiting_for_loop : List ℕ → ℕ → ℕ → ℕ → ℕ → News → World
waiting_for_loop cs p n phase f told = with_cells to_loop cs (with_ring to_loop (ring 2 p n) (reader phase f told))

-- after a device clear "9" and ":" come over the bus, the loop fetches "9", and ";" comes, which stands nowhere
abbrev cleared_for_loop : Turn Call Did
cleared_for_loop = answers (clears to_loop) done (waiting_for_loop (cells_for to_loop) 0 0 1 0 no_news)

third_swallowed : List (Turn Call Did)
third_swallowed =
    answers (leaves to_loop 57) done (waiting_for_loop (57 ∷ 53 ∷ []) 0 1 1 0 come)
    ∷ answers (leaves to_loop 58) done (waiting_for_loop (57 ∷ 58 ∷ []) 0 2 1 0 come)
    ∷ answers (asks to_loop) (frame 1 57) (waiting_for_loop (57 ∷ 58 ∷ []) 1 1 2 57 come)
    ∷ answers (leaves to_loop 59) done (waiting_for_loop (57 ∷ 58 ∷ []) 1 2 2 57 come)
    ∷ []

leaves_late_to_loop_runs : Does mail (leaves_late to_loop) (waiting_for_loop (cells_for to_loop) 0 0 1 0 no_news) (cleared_for_loop ∷ third_swallowed)
unfolding computes third_swallowed
leaves_late_to_loop_runs = (refl, (refl, (refl, (rw (holds (57 ∷ 58 ∷ []) 0 2 refl, no_round 2 1 refl), (refl, tt)))))

pub leaves_late_to_loop_falls : Breaks (leaves_late to_loop) (PlacesSince to_loop)
unfolding computes third_swallowed
leaves_late_to_loop_falls law =
    lists_differ _ _ refl
    (in_since mail (leaves_late to_loop) (PlacesSince to_loop) (waiting_for_loop (cells_for to_loop) 0 0 1 0 no_news) cleared_for_loop third_swallowed
    leaves_late_to_loop_runs tt (tt, (omega arith, (omega arith, (tt, (omega arith, tt))))) law refl refl)

-- a bit above the end mark is set in the first cell
pub writes_high_falls_since : Breaks (writes_high to_loop) (PlacesSince to_loop)
unfolding computes
writes_high_falls_since law =
    lists_differ _ _ refl
    (rw (no_round 2 0 refl) at (law (clears to_loop) (leaves to_loop 57 ∷ []) (leaver to_loop) tt tt (omega arith, tt) refl refl))
