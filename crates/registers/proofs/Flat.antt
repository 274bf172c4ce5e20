-- The fit test as the code has it: control registers only, since a byte is always in a character's range. Assumes nothing.
use Prim.Native.Nat.{ℕ, ◌<◌}
use native.Mathlib.Omega.{arith}
use mathlib.Core.Path.{◌≡◌}
use mathlib.Core.Bool.{Bool, true, ◌&&◌, not, and_assoc, and-true}
use borrow.Author.Tests.{le-ltb}
use Rattle.registers.specs.declared.Registers.{Registers}
use Rattle.registers.specs.Table.{character, table, row_in, carried_of}
use Rattle.registers.specs.Bits.{character_most, too_large, bit_not_carried, in_range}
use Rattle.registers.specs.Writing.{go_is_stop}
use Rattle.registers.specs.RegistersFit.{values, all_in_range, registers_fit}

byte : (x : ℕ) → x < 256 → in_range character x ≡ true
unfolding too_large bit_not_carried in_range
byte x h = rw (le-ltb character_most x (omega arith))

-- the tests of the five control registers, as the code has them
module _ (g : Registers) (t₀ t₁ t₂ t₃ t₄ : Bool) where
  pub flat : t₀ ≡ in_range (carried_of 0) g.r00 → t₁ ≡ in_range (carried_of 1) g.r01 → t₂ ≡ in_range (carried_of 2) g.r02 →
      t₃ ≡ in_range (carried_of 10) g.r10 → t₄ ≡ in_range (carried_of 11) g.r11 →
      g.c00 < 256 → g.c01 < 256 → g.c02 < 256 → g.c03 < 256 → g.c04 < 256 → g.c05 < 256 →
      (t₀ && t₁ && t₂ && t₃ && t₄ && not (go_is_stop g)) ≡ registers_fit g
  unfolding table row_in carried_of values all_in_range registers_fit
  flat e₀ e₁ e₂ e₃ e₄ h₀ h₁ h₂ h₃ h₄ h₅ =
      rw (e₀, e₁, e₂, e₃, e₄, byte g.c00 h₀, byte g.c01 h₁, byte g.c02 h₂, byte g.c03 h₃, byte g.c04 h₄, byte g.c05 h₅)
      (simp (and_assoc, and-true))
