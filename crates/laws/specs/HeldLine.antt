-- No rule changes under a held line.
use Rattle.std.specs.Prelude.{ℕ, ◌%◌, ◌≡◌, Bool, true, false, cond, ◌&&◌, ◌||◌, eqb, ltb}
use Rattle.machine.specs.Course.{of}
use Rattle.machine.specs.Machine.{of_calls}
use Rattle.answers.specs.Answers.{refused}
use Rattle.bridge.specs.Calls.{write, on}
use Rattle.laws.specs.Bridges.{Law, Saw}
use Rattle.laws.specs.Fitting.{Fits}
use Rattle.laws.specs.Observers.{taken, starts_anew}
use Rattle.laws.specs.Worlds.{holds_some, rule_in}

-- while something is held to be sent on the loop, whatever is called, the rule that it is read by stays; a create or reset begins anew, and leaves
-- nothing held
abbrev pub RuleStays : Law
RuleStays = of_calls (λ s. of starts_anew s ≡ false → holds_some s.before ≡ true → rule_in s.after ≡ rule_in s.before)

-- ---- which writes are refused

-- R10, C00 and C01
abbrev pub names_rule : ℕ → Bool
names_rule n = eqb n 10 || (eqb n 16 || eqb n 17)

-- the value can stand there: in R10, which carries bits 3 and 2, a multiple of 4 below 16, and in the others a character
abbrev pub can_stand : ℕ → ℕ → Bool
can_stand n v = cond (eqb n 10) (ltb v 16 && eqb (v % 4) 0) (ltb v 256)

-- a write of the value v to the register n
pub record HeldRefused (s : Saw) (n v : ℕ) : Type 0 where
  -- one of the three is refused while something is held, whatever the value
  pub always : names_rule n ≡ true → holds_some s.before ≡ true → taken s.answer ≡ false
  -- with 10, where the state fits and the value can stand there
  pub ten : names_rule n ≡ true → holds_some s.before ≡ true → Fits s.before → can_stand n v ≡ true → s.answer ≡ refused 10
  -- and 10 is answered of no other register, never while nothing is held, and after all that the value alone gives
  pub register : s.answer ≡ refused 10 → names_rule n ≡ true
  pub something : s.answer ≡ refused 10 → holds_some s.before ≡ true
  pub last : s.answer ≡ refused 10 → can_stand n v ≡ true

abbrev pub RefusedWhileHeld : Law
RefusedWhileHeld = of_calls (λ s. (n v : ℕ) → s.call ≡ on (write n v) → HeldRefused s n v)
