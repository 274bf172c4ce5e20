-- Mailboxes that write other places of a store, or other bits of a cell, each refuted by one call. Assumes nothing.
use mathlib.Core.Path.{refl}
use Rattle.maillaws.specs.Sights.{to_bus, to_loop}
use Rattle.maillaws.specs.MailPlaces.{PlacesGo}
use Rattle.refuting.specs.SmallRings.{ring}
use Rattle.refuting.proofs.Apart.{numbers_differ, lists_differ}
use Rattle.refuting.proofs.StandsIn.{holds, no_round}
use Rattle.mailwrong.specs.Spoiling.{with_ring}
use Rattle.mailwrong.specs.MailTrials.{cells_for, fresh, leaver, fetcher, waiting, leaves, asks, clears}
use Rattle.mailwrong.specs.SpoiltPlaces.{wipes_fetched, leaves_further, writes_high, clear_keeps_place}
use Rattle.mailwrong.specs.BrokenMail.{Breaks}
use Rattle.mailwrong.proofs.MailComputing.{computes}

-- ---- what is written

pub wipes_fetched_falls : Breaks (wipes_fetched to_bus) (PlacesGo to_bus)
unfolding computes
wipes_fetched_falls law = lists_differ _ _ refl (law (asks to_bus) (waiting to_bus 1 (fetcher to_bus)) tt).bytes

pub writes_high_falls : Breaks (writes_high to_loop) (PlacesGo to_loop)
unfolding computes
writes_high_falls law = lists_differ _ _ refl (rw (no_round 2 0 refl) at (law (leaves to_loop 57) (leaver to_loop) tt).bytes)

-- ---- where

pub leaves_further_falls : Breaks (leaves_further to_loop) (PlacesGo to_loop)
unfolding computes
leaves_further_falls law =
    lists_differ _ _ refl
    (rw (holds (cells_for to_loop) 0 0 refl, no_round 2 1 refl, no_round 2 1 refl) at (law (leaves to_loop 57) (leaver to_loop) tt).bytes)

-- place 1 is the next, where it is place 0
pub clear_keeps_place_falls : Breaks (clear_keeps_place to_bus) (PlacesGo to_bus)
unfolding computes
clear_keeps_place_falls law = numbers_differ _ _ refl (law (clears to_bus) (with_ring to_bus (ring 2 1 0) fresh) tt).next
