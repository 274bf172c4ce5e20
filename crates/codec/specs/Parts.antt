-- What several layouts have in them: a ring and its bytes, and flags that stand together.
use Rattle.std.specs.Prelude.{ℕ, ◌+◌, Bool, ◌&&◌, List, ◌++◌}
use Rattle.store.specs.declared.Ring.{Ring}
use Rattle.codec.specs.Codec.{two, flag}

-- the ring whose three numbers stand from i on
abbrev pub ring_at : List ℕ → ℕ → Ring
ring_at b i = record { cap = two.get b i; oldest = two.get b (i + 2); len = two.get b (i + 4) }

-- the bytes of the three numbers of a ring
abbrev pub ring_bytes : Ring → List ℕ
ring_bytes r = two.put r.cap ++ two.put r.oldest ++ two.put r.len

-- three flags that stand one after the other are each 1 or 0, and what stands before them is right
abbrev pub three_right : List ℕ → ℕ → Bool → Bool
three_right b i before = flag.right b (i + 2) && (flag.right b (i + 1) && (flag.right b i && before))
