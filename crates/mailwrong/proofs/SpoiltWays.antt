-- Mailboxes that do not keep what is left in a way, or keep what is not, each refuted by one call. Assumes nothing.
use native.Mathlib.Omega.{arith}
use mathlib.Core.Path.{refl}
use mathlib.Core.List.{[], ◌∷◌}
use Rattle.frame.specs.Frame.{made}
use Rattle.maillaws.specs.Sights.{to_bus, to_loop}
use Rattle.maillaws.specs.WaysKept.{WayKept}
use Rattle.refuting.proofs.Apart.{lists_differ}
use Rattle.refuting.proofs.StandsIn.{holds, no_round}
use Rattle.mailwrong.specs.MailTrials.{cells_for, fresh, waiting, leaver, holding_back, takes, leaves}
use Rattle.mailwrong.specs.SpoiltWays.{replaces_newest, loses_point, keeps_for_others, stores_held_twice, takes_held_back}
use Rattle.mailwrong.specs.BrokenMail.{Breaks}
use Rattle.mailwrong.proofs.MailComputing.{computes}

-- "9" comes to the full way, and the byte before it is gone
pub replaces_newest_to_bus_falls : Breaks (replaces_newest to_bus) (WayKept to_bus)
unfolding computes
replaces_newest_to_bus_falls law =
    lists_differ _ _ refl
    (rw (no_round 2 1 refl, holds (305 ∷ 57 ∷ []) 0 2 refl, holds (cells_for to_bus) 0 2 refl)
    at (law (leaves to_bus 57 ∷ []) (waiting to_bus 2 (leaver to_bus)) tt (tt, tt) refl))

pub replaces_newest_to_loop_falls : Breaks (replaces_newest to_loop) (WayKept to_loop)
unfolding computes
replaces_newest_to_loop_falls law =
    lists_differ _ _ refl
    (rw (no_round 2 1 refl, holds (306 ∷ 57 ∷ []) 0 2 refl, holds (cells_for to_loop) 0 2 refl)
    at (law (leaves to_loop 57 ∷ []) (waiting to_loop 2 (leaver to_loop)) tt (omega arith, tt) refl))

-- the point comes behind the first byte
pub loses_point_to_bus_falls : Breaks (loses_point to_bus) (WayKept to_bus)
unfolding computes
loses_point_to_bus_falls law =
    lists_differ _ _ refl (rw (holds (cells_for to_bus) 0 1 refl) at (law (leaves to_bus 46 ∷ []) (waiting to_bus 1 (leaver to_bus)) tt (tt, tt) refl))

pub loses_point_to_loop_falls : Breaks (loses_point to_loop) (WayKept to_loop)
unfolding computes
loses_point_to_loop_falls law =
    lists_differ _ _ refl
    (rw (holds (cells_for to_loop) 0 1 refl) at (law (leaves to_loop 46 ∷ []) (waiting to_loop 1 (leaver to_loop)) tt (omega arith, tt) refl))

-- "9" comes to the empty way of a mailbox that is not listener
pub keeps_for_others_to_bus_falls : Breaks (keeps_for_others to_bus) (WayKept to_bus)
unfolding computes
keeps_for_others_to_bus_falls law =
    lists_differ _ _ refl
    (rw (no_round 2 0 refl, holds (57 ∷ 55 ∷ []) 0 1 refl, holds (cells_for to_bus) 0 0 refl) at (law (leaves to_bus 57 ∷ []) fresh tt (tt, tt) refl))

pub keeps_for_others_to_loop_falls : Breaks (keeps_for_others to_loop) (WayKept to_loop)
unfolding computes
keeps_for_others_to_loop_falls law =
    lists_differ _ _ refl
    (rw (no_round 2 0 refl, holds (57 ∷ 53 ∷ []) 0 1 refl, holds (cells_for to_loop) 0 0 refl) at (law (leaves to_loop 57 ∷ []) fresh tt (omega arith, tt) refl))

-- 2,49 is held back and released, and "1" waits twice
pub stores_held_twice_falls : Breaks stores_held_twice (WayKept to_bus)
unfolding computes
stores_held_twice_falls law =
    lists_differ _ _ refl
    (rw (no_round 2 1 refl, holds (305 ∷ 305 ∷ []) 0 2 refl, holds (cells_for to_bus) 0 1 refl)
    at (law (takes 5 66 ∷ []) (holding_back (made 2 49)) tt (tt, tt) refl))

-- 2,49 is held back, and unlisten comes: nothing waits
pub takes_held_back_falls : Breaks takes_held_back (WayKept to_bus)
unfolding computes
takes_held_back_falls law =
    lists_differ _ _ refl
    (rw (holds (cells_for to_bus) 0 0 refl, holds (cells_for to_bus) 0 1 refl) at (law (takes 4 63 ∷ []) (holding_back (made 2 49)) tt (tt, tt) refl))
