-- The registers by number: what each carries, and its start value.
use Rattle.std.specs.Prelude.{ℕ, ◌+◌, Bool, false, cond, ◌||◌, List, [], ◌∷◌, eqb, Option, Some, None}
use Rattle.registers.specs.declared.Contents.{Contents}
use Rattle.registers.specs.declared.Contents.TheVariants.{Bits, Character}
use Rattle.registers.specs.declared.Registers.{Registers}

-- what a register carries: some bits of four, written as their sum (bit 3 is 8, bit 0 is 1), or a whole character
abbrev pub nothing : ℕ
nothing = 0

abbrev pub character : ℕ
character = 16

-- a register's number, what it carries, and its start value
pub record Row : Type 0 where
  pub number : ℕ
  pub carries : ℕ
  pub start : ℕ

abbrev pub row : ℕ → ℕ → ℕ → Row
row n k s = record { number = n; carries = k; start = s }

-- Registers, numbers, carried and start: a row for each register that is carried, R00 to R11 by 0 to 11 and C00 to C05 by 16 to 21
unfoldable pub table : List Row
table =
    row 0 (8 + 1) 0
    ∷ row 1 (8 + 4 + 2 + 1) 0
    ∷ row 2 (4 + 1) 0
    ∷ row 10 (8 + 4) 0
    ∷ row 11 8 8
    ∷ row 16 character 13
    ∷ row 17 character 10
    ∷ row 18 character 13
    ∷ row 19 character 10
    ∷ row 20 character 17
    ∷ row 21 character 19
    ∷ []

-- the row of a number; one that no row has carries nothing
unfoldable pub row_in : List Row → ℕ → Row
row_in [] n = row n nothing 0
row_in (r ∷ rs) n = cond (eqb n r.number) r (row_in rs n)

-- whether a number has a row
unfoldable pub has_row : List Row → ℕ → Bool
has_row [] n = false
has_row (r ∷ rs) n = eqb n r.number || has_row rs n

unfoldable pub carried_of : ℕ → ℕ
carried_of n = (row_in table n).carries

-- the code's word for it
unfoldable pub carries : ℕ → Option Contents
carries k = cond (eqb k nothing) None (cond (eqb k character) (Some Character) (Some (Bits k)))

unfoldable pub start_of : ℕ → ℕ
start_of n = (row_in table n).start

-- each register starts as its row says
unfoldable pub start_registers : Registers
start_registers =
    record {
      r00 = start_of 0;
      r01 = start_of 1;
      r02 = start_of 2;
      r10 = start_of 10;
      r11 = start_of 11;
      c00 = start_of 16;
      c01 = start_of 17;
      c02 = start_of 18;
      c03 = start_of 19;
      c04 = start_of 20;
      c05 = start_of 21;
    }
