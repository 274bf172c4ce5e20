-- The ways out of the code of a write, one step further down the list of checks each. Assumes nothing.
use Prim.Native.Nat.{ℕ, ◌%◌}
use native.Mathlib.Omega.{arith}
use mathlib.Core.Path.{◌≡◌, sym, ◌∙◌}
use mathlib.Core.Bool.{Bool, true, false}
use borrow.Author.Tests.{eq-eqb, ne_eqb}
use Rattle.answers.specs.Refusals.{first_refusal}
use Rattle.registers.specs.declared.Registers.{Registers}
use Rattle.registers.specs.Table.{carried_of}
use Rattle.registers.specs.Bits.{too_large, bit_not_carried}
use Rattle.registers.specs.Writing.{written, write_checks}
use Rattle.registers.proofs.Refusals.{small_byte}

-- k is what the number carries, l and s are the tests of the value
module _ (g : Registers) (n v k : ℕ) (at : k ≡ carried_of n) where
  pub gives_five : k ≡ 0 → 5 ≡ first_refusal (write_checks g n v)
  unfolding write_checks
  gives_five e = rw (← at, eq-eqb k 0 e)

  module _ (some : k ≡ 0 → ⊥) (l : Bool) (large : l ≡ too_large k v) where
    pub gives_six : l ≡ true → 6 ≡ first_refusal (write_checks g n v)
    unfolding write_checks
    gives_six e = rw (← at, ne_eqb k 0 some, ← large, e)

    module _ (small : l ≡ false) (s : Bool) (stray : s ≡ bit_not_carried k v) where
      pub gives_seven : s ≡ true → 7 ≡ first_refusal (write_checks g n v)
      unfolding write_checks
      gives_seven e = rw (← at, ne_eqb k 0 some, ← large, small, ← stray, e)

      -- the registers after the write, where the value is a byte
      module _ (clean : s ≡ false) (w : Registers) (is : w ≡ written g n (v % 256)) where
        whole : written g n v ≡ w
        whole =
            let h = small_byte k v (sym large ∙ small) in
            let m : v % 256 ≡ v = omega arith in
            sym (rw m at is)

        pub gives_eight : w.c04 ≡ w.c05 → 8 ≡ first_refusal (write_checks g n v)
        unfolding write_checks
        gives_eight e = rw (← at, ne_eqb k 0 some, ← large, small, ← stray, clean, whole, eq-eqb w.c04 w.c05 e)

        pub gives_none : (w.c04 ≡ w.c05 → ⊥) → 0 ≡ first_refusal (write_checks g n v)
        unfolding write_checks
        gives_none e = rw (← at, ne_eqb k 0 some, ← large, small, ← stray, clean, whole, ne_eqb w.c04 w.c05 e)
