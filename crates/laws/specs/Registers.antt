-- How the registers go, over every call.
use Rattle.std.specs.Prelude.{ℕ, ◌≡◌, false, cond, List, [], ◌∷◌, eqb}
use Rattle.machine.specs.Course.{of}
use Rattle.machine.specs.Machine.{of_calls}
use Rattle.laws.specs.Bridges.{Law}
use Rattle.laws.specs.Observers.{taken, on_write, starts_anew}
use Rattle.laws.specs.Starting.{register_values}

-- Registers, first: the numbers of R00, R01, R02, R10, R11 and of C00 to C05
abbrev pub numbers : List ℕ
numbers = 0 ∷ 1 ∷ 2 ∷ 10 ∷ 11 ∷ 16 ∷ 17 ∷ 18 ∷ 19 ∷ 20 ∷ 21 ∷ []

-- the values of registers of these numbers, where the register n gets the value v
unfoldable pub written_to : ℕ → ℕ → List ℕ → List ℕ → List ℕ
written_to n v [] xs = xs
written_to n v (k ∷ ks) [] = []
written_to n v (k ∷ ks) (x ∷ xs) = cond (eqb n k) v x ∷ written_to n v ks xs

-- a register write that is not refused writes its register and no other; no other call writes one, but a create or reset, which begin them
abbrev pub RegistersGo : Law
RegistersGo =
    of_calls
    (λ s. of starts_anew s ≡ false →
    register_values s.after.state.regs
    ≡ on_write (λ n v. cond (taken s.answer) (written_to n v numbers (register_values s.before.state.regs)) (register_values s.before.state.regs))
    (register_values s.before.state.regs) s.call)
