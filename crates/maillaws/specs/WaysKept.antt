-- Demand 3, first, of both ways of a mailbox: what was fetched and what waits is what was left, bytes and end marks, in order.
use Rattle.std.specs.Prelude.{ℕ}
use Rattle.machine.specs.Turns.{Reading, Kept, Since}
use Rattle.answers.specs.Answers.{Said}
use Rattle.mailbox.specs.Calls.{Call, World}
use Rattle.maillaws.specs.Mailboxes.{Law}
use Rattle.maillaws.specs.Sights.{Direction, left, fetched, waits, clears}

-- a way: cells are left and wait, and are fetched as they are
abbrev pub through : Direction → Reading World Call Said ℕ ℕ
through d = record { accepted = left d; sent = fetched d; held = waits d; reads = λ w l. l }

-- The mailbox, what is fetched and what waits, whatever waited before: in a run without a clear of that way, on each way by itself
abbrev pub WayKept : Direction → Law
WayKept d = Kept (through d) (clears d)

-- and since the last clear: what was fetched, followed by what waits, is what was left
abbrev pub WaySince : Direction → Law
WaySince d = Since (through d) (clears d) (clears d)
