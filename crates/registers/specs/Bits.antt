-- The bits of a value, and which values a register can hold.
use Rattle.std.specs.Prelude.{ℕ, ◌/◌, ◌%◌, ◌^◌, Bool, cond, ◌&&◌, ◌||◌, not, eqb, ltb}
use Rattle.registers.specs.Table.{character}

-- bit k is on
abbrev pub bit : ℕ → ℕ → Bool
bit k x = eqb (x / 2 ^ k % 2) 1

abbrev pub control_most : ℕ
control_most = 15

abbrev pub character_most : ℕ
character_most = 255

-- Sizes and refusals, 6: the value is above what a register that carries k can hold
unfoldable pub too_large : ℕ → ℕ → Bool
too_large k v = cond (eqb k character) (ltb character_most v) (ltb control_most v)

-- bit j is on in the value and not carried
abbrev pub stray : ℕ → ℕ → ℕ → Bool
stray j k v = bit j v && not (bit j k)

-- Sizes and refusals, 7: a bit of a control register that it does not carry
unfoldable pub bit_not_carried : ℕ → ℕ → Bool
bit_not_carried k v = not (eqb k character) && (((stray 0 k v || stray 1 k v) || stray 2 k v) || stray 3 k v)

-- Sizes and refusals, fitting: a register is in its range if a write of its value would not be refused by 6 or 7
unfoldable pub in_range : ℕ → ℕ → Bool
in_range k v = not (too_large k v) && not (bit_not_carried k v)
