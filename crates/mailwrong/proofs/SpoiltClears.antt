-- Mailboxes that clear what they should leave, or leave what they should clear, each refuted by one call. Assumes nothing.
use mathlib.Core.Path.{refl, ap}
use mathlib.Core.Bool.{true≢false, false≢true}
use mathlib.Core.List.{[], ◌∷◌}
use lib.Dec.{eqb}
use Rattle.store.specs.declared.Ring.{Ring}
use Rattle.news.specs.declared.News.{News}
use Rattle.mailbox.specs.Calls.{create, reset, bus_clear, on}
use Rattle.maillaws.specs.Sights.{to_bus, to_loop}
use Rattle.maillaws.specs.WaysKept.{WayKept, WaySince}
use Rattle.maillaws.specs.WaysCleared.{ClearsWay, OtherStays}
use Rattle.refuting.proofs.Apart.{lists_differ}
use Rattle.refuting.proofs.StandsIn.{holds}
use Rattle.mailwrong.specs.MailTrials.{cells_for, full, requested, takes, commands, clears}
use Rattle.mailwrong.specs.SpoiltClears.{clear_leaves, restart_leaves, clear_leaves_request, clears_both, clear_hushes, interface_clear_empties, clears_for_others}
use Rattle.mailwrong.specs.BrokenMail.{Breaks}
use Rattle.mailwrong.proofs.MailComputing.{computes}

-- ---- what should be cleared: a device clear, where both ways are full

pub clear_leaves_to_bus_falls : Breaks (clear_leaves to_bus) (ClearsWay to_bus)
unfolding computes
clear_leaves_to_bus_falls law = lists_differ _ _ refl (rw (holds (cells_for to_bus) 0 2 refl) at (law (clears to_bus) full tt refl).none)

pub clear_leaves_to_loop_falls : Breaks (clear_leaves to_loop) (ClearsWay to_loop)
unfolding computes
clear_leaves_to_loop_falls law = lists_differ _ _ refl (rw (holds (cells_for to_loop) 0 2 refl) at (law (clears to_loop) full tt refl).none)

pub clear_leaves_request_to_bus_falls : Breaks (clear_leaves_request to_bus) (ClearsWay to_bus)
unfolding computes
clear_leaves_request_to_bus_falls law = true≢false (law (clears to_bus) requested tt refl).request

pub clear_leaves_request_to_loop_falls : Breaks (clear_leaves_request to_loop) (ClearsWay to_loop)
unfolding computes
clear_leaves_request_to_loop_falls law = true≢false (law (clears to_loop) requested tt refl).request

-- what waited before is still there since the clear
pub clear_leaves_to_bus_since : Breaks (clear_leaves to_bus) (WaySince to_bus)
unfolding computes
clear_leaves_to_bus_since law = lists_differ _ _ refl (rw (holds (cells_for to_bus) 0 2 refl) at (law (clears to_bus) [] full tt tt tt refl refl))

pub clear_leaves_to_loop_since : Breaks (clear_leaves to_loop) (WaySince to_loop)
unfolding computes
clear_leaves_to_loop_since law = lists_differ _ _ refl (rw (holds (cells_for to_loop) 0 2 refl) at (law (clears to_loop) [] full tt tt tt refl refl))

-- the same at a reset and at a create
pub restart_leaves_to_bus_since : Breaks restart_leaves (WaySince to_bus)
unfolding computes
restart_leaves_to_bus_since law = lists_differ _ _ refl (rw (holds (cells_for to_bus) 0 2 refl) at (law (on reset) [] full tt tt tt refl refl))

pub restart_leaves_to_loop_since : Breaks restart_leaves (WaySince to_loop)
unfolding computes
restart_leaves_to_loop_since law = lists_differ _ _ refl (rw (holds (cells_for to_loop) 0 2 refl) at (law (create 5) [] full tt tt tt refl refl))

pub restart_leaves_falls : Breaks restart_leaves (ClearsWay to_bus)
unfolding computes
restart_leaves_falls law = lists_differ _ _ refl (rw (holds (cells_for to_bus) 0 2 refl) at (law (create 5) full tt refl).none)

-- ---- what should stay

-- the loop's device clear, and nothing waits for the loop
pub clears_both_to_bus_falls : Breaks clears_both (OtherStays to_bus)
unfolding computes
clears_both_to_bus_falls law = true≢false (ap (λ (r : Ring). eqb r.len 0) (law (clears to_bus) full tt refl).ring)

pub clears_both_to_loop_falls : Breaks clears_both (OtherStays to_loop)
unfolding computes
clears_both_to_loop_falls law = true≢false (ap (λ (r : Ring). eqb r.len 0) (law (clears to_loop) full tt refl).ring)

pub clears_both_loses : Breaks clears_both (WayKept to_loop)
unfolding computes
clears_both_loses law =
    lists_differ _ _ refl
    (rw (holds (cells_for to_loop) 0 0 refl, holds (cells_for to_loop) 0 2 refl) at (law (clears to_bus ∷ []) full tt (tt, tt) refl))

pub clear_hushes_to_bus_falls : Breaks (clear_hushes to_bus) (OtherStays to_bus)
unfolding computes
clear_hushes_to_bus_falls law = false≢true (ap (λ (n : News). n.request) (law (clears to_bus) requested tt refl).news)

pub clear_hushes_to_loop_falls : Breaks (clear_hushes to_loop) (OtherStays to_loop)
unfolding computes
clear_hushes_to_loop_falls law = false≢true (ap (λ (n : News). n.request) (law (clears to_loop) requested tt refl).news)

-- an interface clear of the loop, and one of the bus
pub interface_clear_empties_to_bus_falls : Breaks (interface_clear_empties to_bus) (WayKept to_bus)
unfolding computes
interface_clear_empties_to_bus_falls law =
    lists_differ _ _ refl
    (rw (holds (cells_for to_bus) 0 0 refl, holds (cells_for to_bus) 0 2 refl) at (law (takes 4 144 ∷ []) full tt (tt, tt) refl))

pub interface_clear_empties_to_loop_falls : Breaks (interface_clear_empties to_loop) (WayKept to_loop)
unfolding computes
interface_clear_empties_to_loop_falls law =
    lists_differ _ _ refl
    (rw (holds (cells_for to_loop) 0 0 refl, holds (cells_for to_loop) 0 2 refl) at (law (on bus_clear ∷ []) full tt (tt, tt) refl))

-- a selected device clear, where the mailbox is not listener
pub clears_for_others_to_bus_falls : Breaks (clears_for_others to_bus) (WayKept to_bus)
unfolding computes
clears_for_others_to_bus_falls law =
    lists_differ _ _ refl
    (rw (holds (cells_for to_bus) 0 0 refl, holds (cells_for to_bus) 0 2 refl) at (law (takes 4 4 ∷ []) full tt (tt, tt) refl))

pub clears_for_others_to_loop_falls : Breaks (clears_for_others to_loop) (WayKept to_loop)
unfolding computes
clears_for_others_to_loop_falls law =
    lists_differ _ _ refl
    (rw (holds (cells_for to_loop) 0 0 refl, holds (cells_for to_loop) 0 2 refl) at (law (commands 4 ∷ []) full tt (tt, tt) refl))
