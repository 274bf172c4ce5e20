-- What a side is given when it asks: send data on the loop, a fetch on the bus.
use Rattle.std.specs.Prelude.{ℕ, ◌≡◌, Bool, true, false, ◌&&◌, ◌||◌, not, List, [], ◌∷◌, eqb}
use Rattle.machine.specs.Course.{of}
use Rattle.machine.specs.Machine.{of_calls}
use Rattle.frame.specs.Frame.{made, is_data, same_apart}
use Rattle.answers.specs.Answers.{none, frame, cell}
use Rattle.mailbox.specs.Calls.{loop_frame, bus_fetch, on, World}
use Rattle.maillaws.specs.Mailboxes.{Law, Saw}
use Rattle.maillaws.specs.Sights.{Direction, to_bus, to_loop, news_of, waits, taken, loop_addressed, from_way, bus_talks, status_of, fetched}

-- the first of these, if any
abbrev pub first_of : List ℕ → List ℕ
first_of [] = []
first_of (x ∷ xs) = x ∷ []

abbrev pub rest_of : List ℕ → List ℕ
rest_of [] = []
rest_of (x ∷ xs) = xs

-- Send data: asked of an addressed talker, or of one whose data frame from the way is back unchanged and was not to be the last
abbrev pub asks_loop : World → ℕ → Bool
asks_loop w f =
    (eqb f (made 5 96) && loop_addressed w)
    || ((is_data f && same_apart f w.state.talker.under.frame)
    && ((eqb w.state.talker.role.phase 2 && not w.state.talker.under.finishing) && from_way w))

-- the oldest that waits is given, and the rest waits on
pub record GivesFirst (d : Direction) (s : Saw) : Type 0 where
  pub first : of (fetched d) s ≡ first_of (waits d s.before)
  pub rest : waits d s.after ≡ rest_of (waits d s.before)

-- Send data: the contents of the buffer, and 5,64 where it is empty
abbrev pub LoopGiven : Law
LoopGiven =
    of_calls
    (λ s. (f : ℕ) → s.call ≡ on (loop_frame f) → taken s.answer ≡ true → asks_loop s.before f ≡ true →
    GivesFirst to_loop s × (waits to_loop s.before ≡ [] → s.answer ≡ frame 5 64))

-- what the bus is given
pub record BusRight (s : Saw) : Type 0 where
  -- Retrieving data: a talker outside a serial poll gives what waits, or nothing
  pub waiting : bus_talks s.before ≡ true → s.before.state.bus.serial ≡ false → GivesFirst to_bus s × (waits to_bus s.before ≡ [] → s.answer ≡ none)
  -- HP-IB status byte: in a serial poll a talker gives bits 6 and 0, once, and no data is touched
  pub status : bus_talks s.before ≡ true → s.before.state.bus.serial ≡ true → s.before.state.bus.read ≡ false →
      s.answer ≡ cell (status_of (news_of to_bus s.before))
  pub once : bus_talks s.before ≡ true → s.before.state.bus.serial ≡ true → s.before.state.bus.read ≡ true → s.answer ≡ none
  pub kept : s.before.state.bus.serial ≡ true → waits to_bus s.after ≡ waits to_bus s.before
  -- and whoever is not talker gives nothing
  pub silent : bus_talks s.before ≡ false → s.answer ≡ none

abbrev pub BusGiven : Law
BusGiven = of_calls (λ s. s.call ≡ on bus_fetch → taken s.answer ≡ true → BusRight s)
