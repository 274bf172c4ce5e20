-- The oldest bytes as the code has them, each with the break that may follow it.
use Rattle.std.specs.Prelude.{ℕ, List, [], ◌∷◌, take}
use Rattle.reading.specs.declared.Item.{Item}

-- the n oldest, three at most
abbrev pub firsts : ℕ → Item → Item → Item → List Item
firsts n a b c = take n (a ∷ b ∷ c ∷ [])
