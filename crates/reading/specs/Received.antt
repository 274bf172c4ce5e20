-- What is held, as what came from the line: bytes and breaks, in order.
use Rattle.std.specs.Prelude.{ℕ, zero, suc, ◌+◌, ◌/◌, ◌%◌, ◌≡◌, cond, List, [], ◌∷◌, map, eqb}
use Rattle.reading.specs.declared.Item.{Item}

-- what is received from the line, go and stop aside
pub data Received : Type 0 where
  a_byte : ℕ → Received
  a_break : Received

-- ---- cells, of which the low nine bits count

-- the low eight bits are the byte, and bit 8 is the mark of a break that follows it
abbrev pub item_of : ℕ → Item
item_of n = record { byte = n % 256; broken = eqb (n / 256 % 2) 1 }

-- no other bit is looked at
abbrev pub OnlyNineBits : Type 0
OnlyNineBits = (n : ℕ) → item_of n ≡ item_of (n % 512)

-- the cell of a byte that a break follows
abbrev pub marked_cell : ℕ → ℕ
marked_cell n = n % 256 + 256

-- ---- what is held, spread out

-- each byte, and behind it the break that follows it
unfoldable pub received : List Item → List Received
received [] = []
received (x ∷ xs) = a_byte x.byte ∷ cond x.broken (a_break ∷ received xs) (received xs)

-- what a list of cells stands for
abbrev pub received_in : List ℕ → List Received
received_in cells = received (map item_of cells)

-- how many bytes there are among them
unfoldable pub bytes_in : List Received → ℕ
bytes_in [] = zero
bytes_in (a_byte b ∷ xs) = suc (bytes_in xs)
bytes_in (a_break ∷ xs) = bytes_in xs

-- as cells can hold it: no break before the first byte, and one at most behind each
unfoldable pub as_held : List Received → List Received
as_held [] = []
as_held (a_break ∷ xs) = as_held xs
as_held (a_byte b ∷ []) = a_byte b ∷ []
as_held (a_byte b ∷ a_break ∷ xs) = a_byte b ∷ a_break ∷ as_held xs
as_held (a_byte b ∷ a_byte c ∷ xs) = a_byte b ∷ as_held (a_byte c ∷ xs)
