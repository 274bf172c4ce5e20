-- Mailboxes that show wrongly what waits.
use Rattle.std.specs.Prelude.{Bool, true, false, cond, [], eqb}
use Rattle.store.specs.declared.Ring.{Ring}
use Rattle.answers.specs.Answers.{part}
use Rattle.mailbox.specs.Calls.{Call, create, show, on, World, Did, step}
use Rattle.maillaws.specs.Sights.{to_bus, to_loop, ring_of}
use Rattle.mailwrong.specs.Spoiling.{instead, answering, with_ring}
use Rattle.mailwrong.specs.SpoiltFetches.{newest_of}

abbrev is_show : Call → Bool
is_show (show side) = true
is_show (create a) = false
is_show (on c) = false

-- shows an empty part, whatever waits
abbrev pub shows_empty : Call → World → Did
shows_empty = answering (λ c w a. cond (is_show c) (part []) a)

abbrev newest_in : Ring → Ring
newest_in r = cond (eqb r.len 0) r (newest_of r)

-- shows only the newest of what waits
abbrev pub shows_newest : Call → World → Did
shows_newest =
    instead (λ c w. is_show c)
    (λ c w.
    record {
      said = (step c (with_ring to_bus (newest_in (ring_of to_bus w)) (with_ring to_loop (newest_in (ring_of to_loop w)) w))).said;
      world = w;
    })

abbrev turned : Call → Call
turned (show side) = show (cond (eqb side 0) 1 (cond (eqb side 1) 0 side))
turned (create a) = create a
turned (on c) = on c

-- shows the other way
abbrev pub shows_other : Call → World → Did
shows_other c w = step (turned c) w
