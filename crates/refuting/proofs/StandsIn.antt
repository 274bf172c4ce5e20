-- What a small store holds, by the laws of the store. Assumes nothing.
use Prim.Native.Nat.{ℕ, ◌+◌, ◌-◌}
use mathlib.Core.Path.{◌≡◌}
use mathlib.Core.Bool.{true}
use mathlib.Core.List.{List}
use lib.Dec.{leb, ltb}
use lib.ListN.{length, take, drop}
use borrow.Author.Tests.{ltb-true, leb-true}
use Rattle.store.specs.Ring.{held, wrap}
use Rattle.store.proofs.Laws.{held_unbroken, wrap_low, wrap_high}
use Rattle.refuting.specs.SmallRings.{ring}

-- n bytes from place p, where they do not go round
pub holds : (s : List ℕ) (p n : ℕ) → leb (p + n) (length s) ≡ true → held s (ring (length s) p n) ≡ take n (drop p s)
holds s p n e = held_unbroken s (ring (length s) p n) (leb-true (p + n) (length s) e)

-- a place before the end stays, and one past it comes round
pub no_round : (cap p : ℕ) → ltb p cap ≡ true → wrap cap p ≡ p
no_round cap p e = wrap_low cap p (ltb-true p cap e)

pub goes_round : (cap p : ℕ) → leb cap p ≡ true → wrap cap p ≡ p - cap
goes_round cap p e = wrap_high cap p (leb-true cap p e)
