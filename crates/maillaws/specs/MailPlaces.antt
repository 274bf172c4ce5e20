-- The places of the cells in the two stores. A way that was cleared begins at place 0, cells go on place by place, and no other cell is
-- written. A cell is written whole, so that its bits above the end mark are 0.
use Rattle.std.specs.Prelude.{map}
use Rattle.places.specs.OneStore.{anew}
use Rattle.places.specs.Filling.{Filling, PlacedByCalls, FilledSince}
use Rattle.answers.specs.Answers.{Said}
use Rattle.mailbox.specs.Calls.{Call, World}
use Rattle.maillaws.specs.Mailboxes.{Law}
use Rattle.maillaws.specs.Sights.{Direction, store_of, ring_of, left, clears}

-- the store of a way, its ring, what a call leaves in it, and whether a call clears it; no cell is written again
abbrev pub filling : Direction → Filling World Call Said
filling d = record { store = store_of d; ring = ring_of d; written = λ c w a. map anew (left d c w a); mark = λ n. n; empties = clears d }

-- of every call, for each way; cells that are fetched do not move the next place
abbrev pub PlacesGo : Direction → Law
PlacesGo d = PlacedByCalls (filling d)

-- since the way was cleared: the n-th cell, from 0, was written at the remainder of n by the length of the store, and nothing else was
-- written. Nothing that the mailbox records of the way is looked at
abbrev pub PlacesSince : Direction → Law
PlacesSince d = FilledSince (filling d)
