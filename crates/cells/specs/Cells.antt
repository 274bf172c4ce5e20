-- What the types of the code give of every lent buffer of cells.
use Rattle.std.specs.Prelude.{ℕ, ◌<◌, List, get_or}

-- a list of cells of 16 bits
abbrev pub Cells : List ℕ → Type 0
Cells xs = (k : ℕ) → get_or xs k 0 < 65536
