-- While registers are written nothing is held. Assumes nothing.
use Prim.Native.Nat.{ℕ, zero, suc, ◌+◌}
use native.Mathlib.Omega.{arith}
use mathlib.Core.Path.{◌≡◌, refl}
use mathlib.Core.List.{List}
use lib.Dec.{eqb, ltb}
use lib.ListN.{get_or}
use borrow.Author.Tests.{ltb-true}
use Rattle.branches.proofs.Branches.{by_cond, and_left}
use Rattle.answers.specs.Answers.{fault_of, said}
use Rattle.state.specs.declared.State.{State}
use Rattle.state.specs.Sizes.{start_state}
use Rattle.state.specs.Conditions.{settled}
use Rattle.line.specs.HoldingOff.{set_afresh, after_write}
use Rattle.answers.specs.Refusals.{first_refusal}
use Rattle.bridge.specs.Calls.{on, write, World, Did, of_reading_rule, held_line, checks, outcome, settled_by, not_refused, step}
use Rattle.bridge.proofs.Checks.{ten_given}
use Rattle.laws.proofs.Refusing.{by_refusal}
use Rattle.std.specs.Prelude.{Some}
use Rattle.std.proofs.lemmas.Option.{none-some, same_Some}
use Rattle.transcript.specs.Transcript.{Set, set_registers}
use Rattle.transcript.specs.RegistersFirst.{NeverTen}

abbrev Nothing : World → Type 0
Nothing w = w.state.rx.len ≡ 0

module _ (n v : ℕ) (w : World) (none : Nothing w) where
  -- a write leaves nothing held
  write_nothing : Nothing (step (on (write n v)) w).world
  unfolding not_refused outcome settled_by settled after_write set_afresh
  write_nothing =
      by_refusal (λ (d : Did). Nothing d.world) (on (write n v)) w
      (λ _. by_cond (λ (s : State). s.rx.len ≡ 0) (eqb n 11) _ _ (λ _. none) (λ _. none)) (λ _. none)

  -- and is not refused by 10
  not_held : first_refusal (checks (on (write n v)) w) ≡ 10 → ⊥
  unfolding held_line
  not_held e = omega (arith, none, ltb-true 0 w.state.rx.len (and_left (ltb 0 w.state.rx.len) (of_reading_rule n) (ten_given w n v e).held))

  not_ten : fault_of (step (on (write n v)) w).said ≡ 10 → ⊥
  unfolding not_refused outcome said fault_of
  not_ten = by_refusal (λ (d : Did). fault_of d.said ≡ 10 → ⊥) (on (write n v)) w (λ _ e. omega arith) (λ _. not_held)

set_never : (n : ℕ) (x : List ℕ) (i : ℕ) (w : World) → Nothing w → (set_registers n x i w).refusal ≡ Some 10 → ⊥
unfolding set_registers
set_never zero x i w none = none-some 10
set_never (suc n) x i w none =
    let k = get_or x i 0 in
    let v = get_or x (i + 1) 0 in
    by_cond (λ (g : Set). g.refusal ≡ Some 10 → ⊥) (eqb (fault_of (step (on (write k v)) w).said) 0) _ _
    (λ _. set_never n x (i + 2) (step (on (write k v)) w).world (write_nothing k v w none))
    (λ _ e. not_ten k v w none (same_Some _ _ e))

pub never_ten : NeverTen
unfolding start_state
never_ten x p rx tx = set_never p.regs x 2 _ refl
