-- Which values the table lets stand in R10, C00 and C01. Assumes nothing.
use Prim.Native.Nat.{ℕ, ◌/◌, ◌%◌}
use native.Mathlib.Omega.{arith}
use mathlib.Core.Path.{◌≡◌, refl, sym, subst, ◌∙◌}
use mathlib.Core.Bool.{Bool, true, false, ◌&&◌, ◌||◌, false≢true}
use lib.Dec.{eqb, ltb}
use borrow.Author.Tests.{eqb-true, eqb-false, eq-eqb, ne_eqb, ltb-true, ltb-false, lt-ltb, le-ltb, not-true}
use Rattle.branches.proofs.Branches.{and_left, and_right}
use Rattle.machine.proofs.Course.{neither}
use Rattle.answers.specs.Refusals.{first_refusal}
use Rattle.registers.specs.declared.Registers.{Registers}
use Rattle.registers.specs.Table.{nothing, character, table, row_in, carried_of}
use Rattle.registers.specs.Bits.{bit, too_large, bit_not_carried}
use Rattle.registers.specs.Writing.{written, go_is_stop, write_checks}
use Rattle.registers.specs.RegistersFit.{registers_fit, all_in_range, values}
use Rattle.registers.proofs.Refusals.{accepted}
use Rattle.laws.specs.HeldLine.{names_rule, can_stand}

-- what the table asks of a value in a register that is carried
record Passed (n v : ℕ) : Type 0 where
  carried : eqb (carried_of n) nothing ≡ false
  small : too_large (carried_of n) v ≡ false
  bits : bit_not_carried (carried_of n) v ≡ false

-- ---- R10, which carries bits 3 and 2

-- of four bits the lower two are not carried
lower : (a b c d : Bool) → ((((a && true) || (b && true)) || (c && false)) || (d && false)) ≡ (a || b)
lower true b c d = refl
lower false true c d = refl
lower false false true true = refl
lower false false true false = refl
lower false false false true = refl
lower false false false false = refl

module _ (v : ℕ) where
  r10_bits : bit_not_carried (carried_of 10) v ≡ (bit 0 v || bit 1 v)
  unfolding bit_not_carried carried_of row_in table
  r10_bits = lower (bit 0 v) (bit 1 v) (bit 2 v) (bit 3 v)

  r10_passes : can_stand 10 v ≡ true → Passed 10 v
  unfolding too_large carried_of row_in table
  r10_passes e =
      let low = ltb-true v 16 (and_left (ltb v 16) _ e) in
      let four : v % 4 ≡ 0 = eqb-true (v % 4) 0 (and_right (ltb v 16) _ e) in
      record {
        carried = refl;
        small = le-ltb 15 v (omega (arith, low));
        bits = r10_bits ∙ (λ i. ne_eqb (v / 1 % 2) 1 (λ q. omega (arith, four, q)) i || ne_eqb (v / 2 % 2) 1 (λ q. omega (arith, four, q)) i);
      }

  r10_stands : Passed 10 v → can_stand 10 v ≡ true
  unfolding too_large carried_of row_in table
  r10_stands p =
      let low = ltb-false 15 v p.small in
      let both = neither (bit 0 v) (bit 1 v) (sym r10_bits ∙ p.bits) in
      let zero = eqb-false (v / 1 % 2) 1 both.0 in
      let one = eqb-false (v / 2 % 2) 1 both.1 in
      let even : v % 2 ≡ 0 = omega (arith, zero) in
      let half : v / 2 % 2 ≡ 0 = omega (arith, one) in
      let four : v % 4 ≡ 0 = omega (arith, even, half) in
      (λ i. lt-ltb v 16 (omega (arith, low)) i && eq-eqb (v % 4) 0 four i)

-- ---- C00 and C01, which are characters

module _ (n v : ℕ) (whole : carried_of n ≡ character) where
  char_passes : ltb v 256 ≡ true → Passed n v
  unfolding too_large bit_not_carried
  char_passes e = record { carried = rw whole; small = rw whole (le-ltb 255 v (omega (arith, ltb-true v 256 e))); bits = rw whole }

  char_stands : Passed n v → ltb v 256 ≡ true
  unfolding too_large
  char_stands p = lt-ltb v 256 (omega (arith, ltb-false 255 v (rw whole at p.small)))

-- ---- by number

-- what holds at the three holds of each that names the rule
at_three : (P : ℕ → Type 0) → P 10 → P 16 → P 17 → (n : ℕ) → names_rule n ≡ true → P n
at_three P p q r n e = go (eqb n 10) (eqb n 16) (eqb n 17) refl refl refl e
  where
    go : (a b c : Bool) → eqb n 10 ≡ a → eqb n 16 ≡ b → eqb n 17 ≡ c → (a || (b || c)) ≡ true → P n
    go true b c x y z e = subst P (sym (eqb-true n 10 x)) p
    go false true c x y z e = subst P (sym (eqb-true n 16 y)) q
    go false false true x y z e = subst P (sym (eqb-true n 17 z)) r
    go false false false x y z e = absurd (false≢true e)

module _ (g : Registers) (n v : ℕ) where
  -- the write of one of the three leaves go and stop
  go_stop_stay : names_rule n ≡ true → go_is_stop (written g n v) ≡ go_is_stop g
  unfolding written
  go_stop_stay = at_three (λ n. go_is_stop (written g n v) ≡ go_is_stop g) refl refl refl n

  pub stands_let : registers_fit g ≡ true → names_rule n ≡ true → can_stand n v ≡ true → first_refusal (write_checks g n v) ≡ 0
  unfolding write_checks registers_fit carried_of row_in table
  stands_let fit names can =
      let p = at_three (λ n. can_stand n v ≡ true → Passed n v) (r10_passes v) (char_passes 16 v refl) (char_passes 17 v refl) n names can in
      let differ = go_stop_stay names ∙ not-true (go_is_stop g) (and_right (all_in_range (values g)) _ fit) in
      rw (p.carried, p.small, p.bits, differ)

  pub let_stands : names_rule n ≡ true → first_refusal (write_checks g n v) ≡ 0 → can_stand n v ≡ true
  unfolding carried_of row_in table
  let_stands names e =
      let a = accepted g n v e in
      at_three (λ n. Passed n v → can_stand n v ≡ true) (r10_stands v) (char_stands 16 v refl) (char_stands 17 v refl) n names
      (record { carried = a.carried; small = a.small; bits = a.bits })
