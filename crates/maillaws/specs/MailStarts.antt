-- What create and reset give: System startup and addressing, of both sides.
use Rattle.std.specs.Prelude.{ℕ, ◌≡◌, true, false, [], length}
use Rattle.machine.specs.Course.{of}
use Rattle.machine.specs.Machine.{of_calls, of_between}
use Rattle.mailbox.specs.Calls.{reset, Call, create, show, on, World}
use Rattle.maillaws.specs.Mailboxes.{Law}
use Rattle.maillaws.specs.Sights.{Direction, store_of, ring_of, news_of, taken, restarts}

-- what holds where the mailbox starts at the bus address a
pub record Started (a : ℕ) (w : World) : Type 0 where
  -- both buffers are empty, with the lengths of their stores, and nothing is told of them
  pub ring : (d : Direction) → ring_of d w ≡ record { cap = length (store_of d w); oldest = 0; len = 0 }
  pub news : (d : Direction) → news_of d w ≡ record { request = false; available = false; again = false }
  -- on the loop the address is 31, unassigned, with no talker and no listener, and nothing is under way
  pub role : w.state.talker.role ≡ record { address = 31; phase = 0; listener = false }
  pub under : w.state.talker.under ≡ record { frame = 0; finishing = false }
  pub source : w.state.source ≡ 0
  -- not ready is off, nothing is held back, and no parallel poll is answered
  pub hold : w.state.hold ≡ record { enabled = false; held = false; frame = 0 }
  pub response : w.state.response ≡ record { on = false; line = 0; sense = false }
  -- on the bus it is at its address, neither talker nor listener, and no poll is under way or answered
  pub bus : w.state.bus ≡
      record { role = record { address = a; phase = 0; listener = false }; serial = false; read = false; configuring = false; polled = false; line = 0 }

-- the bus address that a create is given, and that a reset has
abbrev pub address_of : Call → World → ℕ
address_of (create a) w = a
address_of (show side) w = w.state.bus.role.address
address_of (on c) w = w.state.bus.role.address

-- after every create or reset that is not refused
abbrev pub StartsSo : Law
StartsSo = of_calls (λ s. of (λ c w a. restarts c a) s ≡ true → Started (address_of s.call s.before) s.after)

-- reset gives what create gives for the same stores and address, so a create right after it changes no state
abbrev pub ResetGivesStart : Law
ResetGivesStart =
    of_between
    (λ s ss t. s.call ≡ on reset → taken s.answer ≡ true → ss ≡ [] →
    t.call ≡ create s.after.state.bus.role.address → taken t.answer ≡ true → t.after.state ≡ s.after.state)
