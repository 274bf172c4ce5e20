-- Small rings, by their numbers.
use Rattle.std.specs.Prelude.{ℕ}
use Rattle.store.specs.declared.Ring.{Ring}

-- a store of so many places that holds n bytes, the oldest at place p
abbrev pub ring : ℕ → ℕ → ℕ → Ring
ring cap p n = record { cap = cap; oldest = p; len = n }
