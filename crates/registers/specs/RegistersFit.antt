-- When registers fit.
use Rattle.std.specs.Prelude.{ℕ, Bool, true, cond, ◌&&◌, not, List, [], ◌∷◌, eqb}
use Rattle.registers.specs.declared.Registers.{Registers}
use Rattle.registers.specs.Table.{carried_of}
use Rattle.registers.specs.Bits.{in_range}
use Rattle.registers.specs.Writing.{go_is_stop}

-- a register's number, and what it holds
pub record Held : Type 0 where
  pub number : ℕ
  pub value : ℕ

abbrev pub held : ℕ → ℕ → Held
held n v = record { number = n; value = v }

-- all registers by number
unfoldable pub values : Registers → List Held
values g =
    held 0 g.r00
    ∷ held 1 g.r01
    ∷ held 2 g.r02
    ∷ held 10 g.r10
    ∷ held 11 g.r11
    ∷ held 16 g.c00
    ∷ held 17 g.c01
    ∷ held 18 g.c02
    ∷ held 19 g.c03
    ∷ held 20 g.c04
    ∷ held 21 g.c05
    ∷ []

-- what the register of a number holds, 0 for one that is not carried
unfoldable pub value_in : List Held → ℕ → ℕ
value_in [] n = 0
value_in (h ∷ hs) n = cond (eqb n h.number) h.value (value_in hs n)

abbrev pub value_of : Registers → ℕ → ℕ
value_of g n = value_in (values g) n

-- Sizes and refusals, fitting: each register is in its range
unfoldable pub all_in_range : List Held → Bool
all_in_range [] = true
all_in_range (h ∷ hs) = in_range (carried_of h.number) h.value && all_in_range hs

-- Sizes and refusals, fitting: and go and stop differ
unfoldable pub registers_fit : Registers → Bool
registers_fit g = all_in_range (values g) && not (go_is_stop g)
