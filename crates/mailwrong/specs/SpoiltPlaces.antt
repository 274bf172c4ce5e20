-- Mailboxes that write other places of a store, or other bits of a cell.
use Rattle.std.specs.Prelude.{ℕ, ◌+◌, cond, List, [], ◌∷◌, set}
use Rattle.store.specs.declared.Ring.{Ring}
use Rattle.store.specs.Ring.{wrap, put_bytes}
use Rattle.places.specs.GoingRound.{GoingRound, put_by}
use Rattle.places.specs.WrongGoingRound.{late, to_the_second}
use Rattle.mailbox.specs.Calls.{Call, World, Did, step}
use Rattle.maillaws.specs.Sights.{Direction, store_of, ring_of, left, comes, clears_by}
use Rattle.mailwrong.specs.Spoiling.{instead_at, leaving, with_ring, with_cells}
use Rattle.mailwrong.specs.SpoiltFetches.{takes_from}

-- writes 0 over the cell that was fetched from the way d
abbrev pub wipes_fetched : Direction → Call → World → Did
wipes_fetched d = leaving (λ c w v. cond (takes_from d c w (step c w).said) (with_cells d (set (store_of d v) (ring_of d w).oldest 0) v) v)

abbrev further : Ring → Ring
further r = record { cap = r.cap; oldest = wrap r.cap (r.oldest + 1); len = r.len }

-- leaves the first cell in the empty way d one place too far
abbrev pub leaves_further : Direction → Call → World → Did
leaves_further d = instead_at (comes d) (λ c w. step c (with_ring d (further (ring_of d w)) w))

abbrev put_high : Direction → List ℕ → World → World → World
put_high d [] w v = v
put_high d (x ∷ xs) w v = with_cells d (put_bytes (store_of d w) (ring_of d w) (x + 512)) v

-- sets the bit above the end mark in every cell that is left in the way d
abbrev pub writes_high : Direction → Call → World → Did
writes_high d = leaving (λ c w v. put_high d (left d c w (step c w).said) w v)

-- goes on at the place where it was when a device clear has emptied the way d
abbrev pub clear_keeps_place : Direction → Call → World → Did
clear_keeps_place d =
    leaving
    (λ c w v. cond (clears_by d c w (step c w).said) (with_ring d (record { cap = (ring_of d v).cap; oldest = (ring_of d w).oldest; len = 0 }) v) v)

-- ---- going round

-- the store of the way d with the cell that is left put into it by a way of going round
abbrev put_round : GoingRound → Direction → List ℕ → World → World → World
put_round g d [] w v = v
put_round g d (x ∷ xs) w v = with_cells d (put_by g (store_of d w) (ring_of d w) x) v

-- a mailbox that writes by a way of going round
abbrev leaves_by : GoingRound → Direction → Call → World → Did
leaves_by g d = leaving (λ c w v. put_round g d (left d c w (step c w).said) w v)

-- goes round one place late in the way d, and swallows the cell that should stand at place 0
abbrev pub leaves_late : Direction → Call → World → Did
leaves_late d = leaves_by late d

-- comes round to place 1 in the way d, and writes over the cell that waits there
abbrev pub leaves_at_second : Direction → Call → World → Did
leaves_at_second d = leaves_by to_the_second d
