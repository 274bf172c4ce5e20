-- Which message clears which way: section 4, sending data to the interface, on the loop and on the bus.
use Rattle.std.specs.Prelude.{◌≡◌, true, false, []}
use Rattle.machine.specs.Course.{of}
use Rattle.machine.specs.Machine.{of_calls}
use Rattle.mailbox.specs.Calls.{World}
use Rattle.maillaws.specs.Mailboxes.{Law}
use Rattle.maillaws.specs.Sights.{Direction, other, store_of, ring_of, news_of, waits, clears_by, clears}

-- nothing waits any more, and nothing is told of it
pub record Emptied (d : Direction) (w : World) : Type 0 where
  pub none : waits d w ≡ []
  pub request : (news_of d w).request ≡ false
  pub available : (news_of d w).available ≡ false

-- a clear of a way, by startup, reset or the device clear of the side that leaves
abbrev pub ClearsWay : Direction → Law
ClearsWay d = of_calls (λ s. of (clears d) s ≡ true → Emptied d s.after)

-- one way is as it was: what waits, where it stands and what is told of it
pub record SameWay (d : Direction) (w v : World) : Type 0 where
  pub ring : ring_of d v ≡ ring_of d w
  pub news : news_of d v ≡ news_of d w
  pub cells : store_of d v ≡ store_of d w

-- a device clear by one side leaves what waits for that side
abbrev pub OtherStays : Direction → Law
OtherStays d = of_calls (λ s. of (clears_by d) s ≡ true → SameWay (other d) s.before s.after)
