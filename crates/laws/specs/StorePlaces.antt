-- Sizes and refusals, the places of the stores: what every call does to them, and where the bytes were written since create, reset or device
-- clear. A store that was emptied begins at place 0, bytes go on place by place, and no other byte is written; but a break marks the newest
-- byte held.
use Rattle.std.specs.Prelude.{cond, List, [], ◌∷◌, map}
use Rattle.places.specs.OneStore.{Write, anew, again}
use Rattle.places.specs.Filling.{Filling, PlacedByCalls, FilledSince}
use Rattle.reading.specs.Received.{marked_cell}
use Rattle.answers.specs.Answers.{Said}
use Rattle.bridge.specs.Calls.{Store, receive, transmit, store_of, ring_of, Call, World}
use Rattle.laws.specs.Bridges.{Law}
use Rattle.laws.specs.Observers.{accepted, marks, added, empties}

-- what is accepted from the line goes into the receive store, and a break writes its newest byte again; what a frame adds goes into the
-- transmit store
abbrev pub written_to : Store → Call → World → Said → List Write
written_to receive c w a = cond (marks c w a) (again ∷ []) (map anew (accepted c w a))
written_to transmit c w a = map anew (added c w a)

-- a cell is its byte, and with its mark 256 more; nothing else stands in it
abbrev pub filling : Store → Filling World Call Said
filling s = record { store = store_of s; ring = λ w. ring_of s w.state; written = written_to s; mark = marked_cell; empties = empties }

-- of every call: bytes go to the next place and on, a mark to the newest, and no other place is written
abbrev pub Places : Store → Law
Places s = PlacedByCalls (filling s)

-- since create, reset or device clear: the n-th byte, from 0, was written at the remainder of n by the length of its store, marks went to the
-- place before the next, and nothing else was written. No place that the bridge records is looked at; of a line byte only whether the receive
-- store was full, since then it is lost, and of a break whether anything was held
abbrev pub PlacesSince : Store → Law
PlacesSince s = FilledSince (filling s)
