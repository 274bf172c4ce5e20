-- Mailboxes that fetch another thing from a way than its oldest cell, or leave another rest, each refuted by one call. Assumes nothing.
use native.Mathlib.Omega.{arith}
use mathlib.Core.Path.{refl}
use mathlib.Core.List.{[], ◌∷◌}
use Rattle.store.proofs.Laws.{wrap_high}
use Rattle.maillaws.specs.Sights.{to_bus, to_loop}
use Rattle.maillaws.specs.WaysKept.{WayKept}
use Rattle.refuting.proofs.Apart.{lists_differ}
use Rattle.refuting.proofs.StandsIn.{holds, no_round}
use Rattle.mailwrong.specs.MailTrials.{cells_for, waiting, fetcher, one_sent, takes, asks}
use Rattle.mailwrong.specs.SpoiltFetches.{drops_mark, gives_again, keeps_damaged, newest_first}
use Rattle.mailwrong.specs.BrokenMail.{Breaks}
use Rattle.mailwrong.proofs.MailComputing.{computes}

pub drops_mark_to_bus_falls : Breaks (drops_mark to_bus) (WayKept to_bus)
unfolding computes
drops_mark_to_bus_falls law =
    lists_differ _ _ refl
    (rw (no_round 2 1 refl, holds (cells_for to_bus) 0 2 refl, holds (cells_for to_bus) 1 1 refl)
    at (law (asks to_bus ∷ []) (waiting to_bus 2 (fetcher to_bus)) tt (tt, tt) refl))

pub drops_mark_to_loop_falls : Breaks (drops_mark to_loop) (WayKept to_loop)
unfolding computes
drops_mark_to_loop_falls law =
    lists_differ _ _ refl
    (rw (no_round 2 1 refl, holds (cells_for to_loop) 0 2 refl, holds (cells_for to_loop) 1 1 refl)
    at (law (asks to_loop ∷ []) (waiting to_loop 2 (fetcher to_loop)) tt (tt, tt) refl))

-- the first is handed over, and both wait on
pub gives_again_to_bus_falls : Breaks (gives_again to_bus) (WayKept to_bus)
unfolding computes
gives_again_to_bus_falls law =
    lists_differ _ _ refl (rw (holds (cells_for to_bus) 0 2 refl) at (law (asks to_bus ∷ []) (waiting to_bus 2 (fetcher to_bus)) tt (tt, tt) refl))

pub gives_again_to_loop_falls : Breaks (gives_again to_loop) (WayKept to_loop)
unfolding computes
gives_again_to_loop_falls law =
    lists_differ _ _ refl
    (rw (holds (cells_for to_loop) 0 2 refl, holds (cells_for to_loop) 0 2 refl)
    at (law (asks to_loop ∷ []) (waiting to_loop 2 (fetcher to_loop)) tt (tt, tt) refl))

pub newest_first_to_bus_falls : Breaks (newest_first to_bus) (WayKept to_bus)
unfolding computes
newest_first_to_bus_falls law =
    lists_differ _ _ refl
    (rw (no_round 2 1 refl, holds (cells_for to_bus) 1 1 refl, holds (cells_for to_bus) 0 1 refl, holds (cells_for to_bus) 0 2 refl)
    at (law (asks to_bus ∷ []) (waiting to_bus 2 (fetcher to_bus)) tt (tt, tt) refl))

pub newest_first_to_loop_falls : Breaks (newest_first to_loop) (WayKept to_loop)
unfolding computes
newest_first_to_loop_falls law =
    lists_differ _ _ refl
    (rw (holds (cells_for to_loop) 0 2 refl, no_round 2 1 refl, holds (cells_for to_loop) 1 1 refl, holds (cells_for to_loop) 0 1 refl)
    at (law (asks to_loop ∷ []) (waiting to_loop 2 (fetcher to_loop)) tt (tt, tt) refl))

-- 2,50 comes back as 2,51, and "2" waits once more
pub keeps_damaged_falls : Breaks keeps_damaged (WayKept to_loop)
unfolding computes
keeps_damaged_falls law =
    lists_differ _ _ refl
    (rw (wrap_high 2 2 (omega arith), holds (cells_for to_loop) 0 2 refl, holds (cells_for to_loop) 1 1 refl)
    at (law (takes 2 51 ∷ []) one_sent tt (tt, tt) refl))
