-- The checks of a register write: those of the registers, and then that of the receive store. Assumes nothing.
use Prim.Native.Nat.{ℕ}
use native.Mathlib.Omega.{arith}
use mathlib.Core.Path.{◌≡◌, refl, sym, ◌∙◌}
use mathlib.Core.Bool.{Bool, true, false, cond, not}
use mathlib.Core.List.{List, [], ◌∷◌, ◌++◌}
use lib.Dec.{eqb}
use lib.ListN.{length}
use borrow.Author.Tests.{eqb-true, eqb-false}
use Rattle.answers.specs.Refusals.{Check, check, first_refusal}
use Rattle.registers.specs.Table.{nothing, carried_of}
use Rattle.registers.specs.Bits.{too_large, bit_not_carried}
use Rattle.registers.specs.Writing.{written, go_is_stop, write_checks}
use Rattle.registers.proofs.Refusals.{accepted}
use Rattle.state.specs.Sizes.{fits}
use Rattle.bridge.specs.Calls.{on, write, World, held_line, checks_on, checks}

-- a refusal stands, whatever checks come after it
first_ahead : (xs ys : List Check) → (first_refusal xs ≡ 0 → ⊥) → first_refusal (xs ++ ys) ≡ first_refusal xs
first_ahead [] ys h = absurd (h refl)
first_ahead (c ∷ cs) ys h = go c.given h (first_ahead cs ys)
  where
    go : (t : Bool) → (cond t c.number (first_refusal cs) ≡ 0 → ⊥) → ((first_refusal cs ≡ 0 → ⊥) → first_refusal (cs ++ ys) ≡ first_refusal cs) →
        cond t c.number (first_refusal (cs ++ ys)) ≡ cond t c.number (first_refusal cs)
    go true k later = refl
    go false k later = later k

module _ (w : World) (n v : ℕ) where
  abbrev of_table : ℕ
  of_table = first_refusal (write_checks w.state.regs n v)

  abbrev of_write : ℕ
  of_write = first_refusal (checks_on (write n v) w)

  -- what the table refuses is refused by its number
  pub write_refused : (of_table ≡ 0 → ⊥) → of_write ≡ of_table
  unfolding checks_on
  write_refused h = first_ahead (write_checks w.state.regs n v) (check 10 (held_line w.state n) ∷ []) h

  -- what it lets through is refused where the line is held
  pub write_let : of_table ≡ 0 → of_write ≡ cond (held_line w.state n) 10 0
  unfolding checks_on write_checks
  write_let e = let a = accepted w.state.regs n v e in rw (a.carried, a.small, a.bits, a.differ)

  -- what an accepted write passed
  pub write_passed : of_write ≡ 0 → (of_table ≡ 0) × (held_line w.state n ≡ false)
  write_passed e = go (eqb of_table 0) refl
    where
      free : (t : Bool) → ◌≡◌ {A = ℕ} (cond t 10 0) 0 → t ≡ false
      free true h = absurd (omega arith)
      free false h = refl

      go : (t : Bool) → eqb of_table 0 ≡ t → (of_table ≡ 0) × (held_line w.state n ≡ false)
      go true h = let z = eqb-true of_table 0 h in (z, free (held_line w.state n) (sym (write_let z) ∙ e))
      go false h = let z = eqb-false of_table 0 h in absurd (z (sym (write_refused z) ∙ e))

  -- 10 is the number of no other check
  write_ten : of_write ≡ 10 → (of_table ≡ 0) × (held_line w.state n ≡ true)
  unfolding checks_on write_checks
  write_ten e =
      go (eqb (carried_of n) nothing) (too_large (carried_of n) v) (bit_not_carried (carried_of n) v) (go_is_stop (written w.state.regs n v))
      (held_line w.state n) e
    where
      go : (five six seven eight ten : Bool) → ◌≡◌ {A = ℕ} (cond five 5 (cond six 6 (cond seven 7 (cond eight 8 (cond ten 10 0))))) 10 →
          (◌≡◌ {A = ℕ} (cond five 5 (cond six 6 (cond seven 7 (cond eight 8 0)))) 0) × (ten ≡ true)
      go false false false false true e = (refl, refl)
      go true six seven eight ten e = absurd (omega arith)
      go false true seven eight ten e = absurd (omega arith)
      go false false true eight ten e = absurd (omega arith)
      go false false false true ten e = absurd (omega arith)
      go false false false false false e = absurd (omega arith)

-- and it is given to a state that fits, for a write that the table lets through
pub record TenGiven (w : World) (n v : ℕ) : Type 0 where
  pub fit : fits w.state (length w.rx) (length w.tx) ≡ true
  pub let_through : first_refusal (write_checks w.state.regs n v) ≡ 0
  pub held : held_line w.state n ≡ true

pub ten_given : (w : World) (n v : ℕ) → first_refusal (checks (on (write n v)) w) ≡ 10 → TenGiven w n v
unfolding checks
ten_given w n v e =
    let k = go (fits w.state (length w.rx) (length w.tx)) _ e in
    let t = write_ten w n v k.1 in
    record { fit = k.0; let_through = t.0; held = t.1 }
  where
    go : (t : Bool) (m : ℕ) → cond (not t) 2 m ≡ 10 → (t ≡ true) × (m ≡ 10)
    go true m e = (refl, e)
    go false m e = absurd (omega arith)

-- and to every such write
pub gives_ten : (w : World) (n v : ℕ) → TenGiven w n v → first_refusal (checks (on (write n v)) w) ≡ 10
unfolding checks
gives_ten w n v k = rw k.fit (write_let w n v k.let_through ∙ (λ i. cond (k.held i) 10 0))
