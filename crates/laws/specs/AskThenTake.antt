-- Ask, then take: what an ask says and what a take does are one, and together they are what giving the next line byte was.
use Rattle.std.specs.Prelude.{ℕ, ◌+◌, ◌-◌, ◌≡◌, Bool, true, false, cond, ◌&&◌, ◌||◌, not, eqb}
use Rattle.machine.specs.Course.{Without}
use Rattle.machine.specs.Machine.{of_calls, of_between}
use Rattle.answers.specs.Answers.{Said, done, byte, refused}
use Rattle.store.specs.declared.Ring.{Ring}
use Rattle.state.specs.declared.State.{State}
use Rattle.state.specs.State.{with_line, with_tx}
use Rattle.state.specs.Conditions.{with_request}
use Rattle.bridge.specs.Calls.{ask_line_byte, take_line_byte, Call, create, show, on, World}
use Rattle.laws.specs.Bridges.{Law, Saw}
use Rattle.laws.specs.Observers.{taken, asks_line_byte, owes}
use Rattle.laws.specs.Worlds.{requested}
use Rattle.laws.specs.Requests.{asking, comes}
use Rattle.laws.specs.NextByte.{next_byte}

-- an ask changes nothing, refused or not
abbrev pub AskLooks : Law
AskLooks = of_calls (λ s. s.call ≡ on ask_line_byte → s.after ≡ s.before)

-- ---- after an ask only calls that look have come, other asks, showing a store and refused calls, or none

-- a call that does more than look, and is not refused
abbrev pub acts : Call → World → Said → Bool
acts (create m) w a = taken a
acts (show side) w a = false
acts (on c) w a = taken a && not (asks_line_byte (on c))

-- two asks answer alike
abbrev pub AsksAlike : Law
AsksAlike = of_between (λ s ss t. s.call ≡ on ask_line_byte → Without acts ss → t.call ≡ on ask_line_byte → t.answer ≡ s.answer)

-- a take of the byte b after an ask that answered a
pub record AsAsked (a : Said) (b : ℕ) (t : Saw) : Type 0 where
  -- of the byte asked for: it is never refused
  pub same : a ≡ byte b → t.answer ≡ done
  -- of any other byte, and where there is none: it is refused, by what the ask was refused with or else with 12, and changes nothing
  pub alike : taken a ≡ false → t.answer ≡ a
  pub other : taken a ≡ true → (a ≡ byte b → ⊥) → t.answer ≡ refused 12
  pub stays : (a ≡ byte b → ⊥) → t.after ≡ t.before

-- what take accepts is what ask says, in every world
abbrev pub TakesAsAsked : Law
TakesAsAsked = of_between (λ s ss t. (b : ℕ) → s.call ≡ on ask_line_byte → Without acts ss → t.call ≡ on (take_line_byte b) → AsAsked s.answer b t)

-- ---- what giving was

-- a store with one byte fewer: the next oldest stands at the next place, which behind the last is the first
abbrev pub one_fewer : Ring → Ring
one_fewer r = record { cap = r.cap; oldest = cond (eqb (r.oldest + 1) r.cap) 0 (r.oldest + 1); len = r.len - 1 }

-- the state after our own character was given: the last of go and stop that we sent is what holds
abbrev pub own_gone : State → State
own_gone s = with_line s (record { holding = s.line.holding; forbidden = s.line.forbidden; stopped = s.line.holding })

-- the state after the next line byte was given, before requests: our own character where one was owed, also if the oldest byte is equal to it
unfoldable pub given_state : World → State
given_state w = cond (owes w.state.line.stopped w) (own_gone w.state) (with_tx w.state (one_fewer w.state.tx))

-- what giving the next line byte did when it was one call: it answered the byte b in the world w, and left the world v
pub record Gave (w : World) (b : ℕ) (v : World) : Type 0 where
  pub next : next_byte w ≡ byte b
  pub state : v.state ≡ with_request (given_state w) (requested w || comes (asking w) (asking v))
  pub rx : v.rx ≡ w.rx
  pub tx : v.tx ≡ w.tx

-- a take that is done is what giving was, whether the byte was asked for or not
abbrev pub GoneAsGiven : Law
GoneAsGiven = of_calls (λ s. (b : ℕ) → s.call ≡ on (take_line_byte b) → s.answer ≡ done → Gave s.before b s.after)

-- and so are an ask and then a take of what it answered
abbrev pub AskThenTake : Law
AskThenTake =
    of_between
    (λ s ss t. (b : ℕ) → s.call ≡ on ask_line_byte → Without acts ss → t.call ≡ on (take_line_byte b) → s.answer ≡ byte b → Gave s.before b t.after)
