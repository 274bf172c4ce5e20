-- Mailboxes that treat the two stores, or the state that goes with them, wrongly, each refuted by one call. Assumes nothing.
use mathlib.Core.Path.{refl, ap}
use mathlib.Core.Bool.{false≢true, true≢false}
use mathlib.Core.List.{[], ◌∷◌}
use lib.Dec.{eqb}
use Rattle.mailbox.specs.Calls.{create}
use Rattle.maillaws.specs.Sights.{to_bus, to_loop}
use Rattle.maillaws.specs.StateFits.{KeepsFit, CreateMakesFit, KeepsStores}
use Rattle.refuting.proofs.StandsIn.{no_round}
use Rattle.mailwrong.specs.Spoiling.{overlooks, with_cells}
use Rattle.mailwrong.specs.MailTrials.{fresh, waiting, leaver, leaves, clears}
use Rattle.mailwrong.specs.SpoiltStores.{grows_store, clears_store_away, counts_on, created_alike}
use Rattle.mailwrong.specs.BrokenMail.{Breaks}
use Rattle.mailwrong.proofs.MailComputing.{computes}

-- ---- the stores themselves

-- a byte comes to a full way, and there are three places
pub grows_store_to_bus_falls : Breaks (grows_store to_bus) KeepsStores
unfolding computes
grows_store_to_bus_falls law =
    true≢false (ap (λ n. eqb n 3) (rw (no_round 3 2 refl) at (law (leaves to_bus 57) (waiting to_bus 2 (leaver to_bus)) tt).tobus))

pub grows_store_to_loop_falls : Breaks (grows_store to_loop) KeepsStores
unfolding computes
grows_store_to_loop_falls law =
    true≢false (ap (λ n. eqb n 3) (rw (no_round 3 2 refl) at (law (leaves to_loop 57) (waiting to_loop 2 (leaver to_loop)) tt).toloop))

pub clears_store_away_to_bus_falls : Breaks (clears_store_away to_bus) KeepsStores
unfolding computes
clears_store_away_to_bus_falls law = true≢false (ap (λ n. eqb n 0) (law (clears to_bus) fresh tt).tobus)

pub clears_store_away_to_loop_falls : Breaks (clears_store_away to_loop) KeepsStores
unfolding computes
clears_store_away_to_loop_falls law = true≢false (ap (λ n. eqb n 0) (law (clears to_loop) fresh tt).toloop)

-- ---- fitting

-- three cells of two wait
pub counts_on_to_bus_falls : Breaks (counts_on to_bus) KeepsFit
unfolding computes
counts_on_to_bus_falls law = false≢true (law (leaves to_bus 57) (waiting to_bus 2 (leaver to_bus)) tt refl)

pub counts_on_to_loop_falls : Breaks (counts_on to_loop) KeepsFit
unfolding computes
counts_on_to_loop_falls law = false≢true (law (leaves to_loop 57) (waiting to_loop 2 (leaver to_loop)) tt refl)

-- at the bus address 31, which is nobody's
pub created_anywhere_falls : Breaks (overlooks 1) CreateMakesFit
unfolding computes
created_anywhere_falls law = false≢true (law (create 31) fresh tt 31 refl refl)

-- two cells for the bus and three for the loop
pub created_alike_falls : Breaks created_alike CreateMakesFit
unfolding computes
created_alike_falls law = false≢true (law (create 5) (with_cells to_loop (1 ∷ 2 ∷ 3 ∷ []) fresh) tt 5 refl refl)
