-- Mailboxes that treat the two stores, or the state that goes with them, wrongly.
use Rattle.std.specs.Prelude.{◌+◌, Bool, true, false, cond, [], ◌∷◌, ◌++◌, length}
use Rattle.store.specs.Ring.{empty_ring}
use Rattle.mailbox.specs.Calls.{Call, create, show, on, World, Did, not_refused, step}
use Rattle.maillaws.specs.Sights.{Direction, to_loop, store_of, ring_of, clears_by}
use Rattle.mailwrong.specs.Spoiling.{instead_at, leaving, with_ring, with_cells}
use Rattle.mailwrong.specs.SpoiltWays.{overflows, holding}

-- a store and its ring one place longer
abbrev longer : Direction → World → World
longer d w =
    with_cells d (store_of d w ++ (0 ∷ []))
    (with_ring d (record { cap = (ring_of d w).cap + 1; oldest = (ring_of d w).oldest; len = (ring_of d w).len }) w)

-- makes the store of the way d one place longer where there is no room
abbrev pub grows_store : Direction → Call → World → Did
grows_store d = instead_at (overflows d) (λ c w. step c (longer d w))

-- a device clear of the way d leaves a store without any place
abbrev pub clears_store_away : Direction → Call → World → Did
clears_store_away d = leaving (λ c w v. cond (clears_by d c w (step c w).said) (with_cells d [] v) v)

-- counts a byte for which the way d has no room
abbrev pub counts_on : Direction → Call → World → Did
counts_on d =
    instead_at (overflows d)
    (λ c w. let v = not_refused c w in record { said = v.said; world = with_ring d (holding ((ring_of d w).len + 1) (ring_of d w)) v.world })

abbrev is_create : Call → Bool
is_create (create a) = true
is_create (show side) = false
is_create (on c) = false

-- records the length of the way to the bus for both ways when it is created
abbrev pub created_alike : Call → World → Did
created_alike = leaving (λ c w v. cond (is_create c) (with_ring to_loop (empty_ring (length w.tobus)) v) v)
