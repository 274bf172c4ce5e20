-- Writing a register: what it leaves, and when it is refused.
use Rattle.std.specs.Prelude.{ℕ, Bool, cond, List, [], ◌∷◌, eqb}
use Rattle.answers.specs.Refusals.{Check, check}
use Rattle.registers.specs.declared.Registers.{Registers}
use Rattle.registers.specs.Table.{nothing, carried_of}
use Rattle.registers.specs.Bits.{too_large, bit_not_carried}
use Rattle.registers.specs.Meanings.{go, stop}

-- the register of that number holds the value, every other one stays
unfoldable pub written : Registers → ℕ → ℕ → Registers
written g n v =
    record {
      r00 = cond (eqb n 0) v g.r00;
      r01 = cond (eqb n 1) v g.r01;
      r02 = cond (eqb n 2) v g.r02;
      r10 = cond (eqb n 10) v g.r10;
      r11 = cond (eqb n 11) v g.r11;
      c00 = cond (eqb n 16) v g.c00;
      c01 = cond (eqb n 17) v g.c01;
      c02 = cond (eqb n 18) v g.c02;
      c03 = cond (eqb n 19) v g.c03;
      c04 = cond (eqb n 20) v g.c04;
      c05 = cond (eqb n 21) v g.c05;
    }

-- Sizes and refusals, 8: go and stop are one character
abbrev pub go_is_stop : Registers → Bool
go_is_stop g = eqb (go g) (stop g)

-- Sizes and refusals, 5 to 8: the register is not carried, the value is too large, a bit is not carried, or the write would make go stop
unfoldable pub write_checks : Registers → ℕ → ℕ → List Check
write_checks g n v =
    check 5 (eqb (carried_of n) nothing)
    ∷ check 6 (too_large (carried_of n) v)
    ∷ check 7 (bit_not_carried (carried_of n) v)
    ∷ check 8 (go_is_stop (written g n v))
    ∷ []
