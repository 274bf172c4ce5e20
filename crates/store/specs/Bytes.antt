-- What the types of the code give of every lent buffer of bytes.
use Rattle.std.specs.Prelude.{ℕ, ◌<◌, List, get_or}

-- a list of bytes
abbrev pub Bytes : List ℕ → Type 0
Bytes xs = (k : ℕ) → get_or xs k 0 < 256
