-- Holding the line off, last: the last of go and stop that we sent, by the line bytes taken, over a run, register writes included.
use Rattle.std.specs.Prelude.{ℕ, ◌≡◌, Bool, true, false, cond, ◌&&◌, List, [], ◌∷◌, eqb}
use Rattle.machine.specs.Course.{of, end, Without}
use Rattle.machine.specs.Machine.{of_runs, of_since, of_between}
use Rattle.answers.specs.Answers.{Said, done, byte, refused}
use Rattle.bridge.specs.Calls.{ask_line_byte, take_line_byte, Call, on, World}
use Rattle.laws.specs.Bridges.{Law, Saw}
use Rattle.laws.specs.Observers.{taken, on_take, owes, own_character, starts_anew}

-- ---- here k is whether the last of go and stop we sent was stop

-- after a call: where one is owed by what was taken, and not by what the bridge recorded, and the line byte taken is that character, it is our
-- own, by the registers that it was sent by; an ask sends nothing, nor does a refused take
unfoldable pub last_of : Bool → Call → World → Said → Bool
last_of k c w a = on_take (λ b. cond (taken a && (owes k w && eqb b (own_character w))) (eqb b w.state.regs.c05) k) k c

-- after a run
unfoldable pub last_sent : Bool → List Saw → Bool
last_sent k [] = k
last_sent k (s ∷ ss) = last_sent (of (last_of k) s) ss

-- ---- the law

-- what the bridge recorded
abbrev pub recorded : World → Bool
recorded w = w.state.line.stopped

-- from any world: what is recorded at the end is the last of go and stop sent in the run, or what was recorded at its start
abbrev pub LastKept : Law
LastKept = of_runs (λ w ss. Without starts_anew ss → recorded (end w ss) ≡ last_sent (recorded w) ss)

-- at start it is go
abbrev pub LastSince : Law
LastSince = of_since (λ s ss. of starts_anew s ≡ true → Without starts_anew ss → recorded (end s.after ss) ≡ last_sent false ss)

-- ---- our own character

-- where our own character is owed
pub record OwnDue (t : Saw) : Type 0 where
  -- an ask says it
  pub asked : t.call ≡ on ask_line_byte → t.answer ≡ byte (own_character t.before)
  -- a take of it is done, and a take of any other byte is refused with 12
  pub own : (b : ℕ) → t.call ≡ on (take_line_byte b) → b ≡ own_character t.before → t.answer ≡ done
  pub other : (b : ℕ) → t.call ≡ on (take_line_byte b) → (b ≡ own_character t.before → ⊥) → t.answer ≡ refused 12

-- Holding the line off, last: where the last of go and stop that we sent is not what holds, the next line byte is the one that is
abbrev pub OwnNext : Law
OwnNext =
    of_between (λ s ss t. of starts_anew s ≡ true → Without starts_anew ss → owes (last_sent false ss) t.before ≡ true → OwnDue t)
