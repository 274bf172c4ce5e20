-- What is tested of a block, on plain values. Assumes nothing.
use Prim.Native.Nat.{ℕ}
use mathlib.Core.Path.{◌≡◌}
use mathlib.Core.Bool.{Bool, ◌&&◌}
use mathlib.Core.List.{List}
use lib.ListN.{get_or}
use lib.Dec.{eqb, leb}
use Rattle.codec.specs.Parts.{three_right}
use Rattle.mailblock.specs.Packed.{version, layout}

-- what the code tests is whether the bytes are right
pub right_met : (b : List ℕ) {x y z v w : Bool} → x ≡ three_right b 26 (leb (get_or b 20 0) 1 && (leb (get_or b 19 0) 1 && eqb (get_or b 0 0) version)) →
    y ≡ three_right b 29 x → z ≡ three_right b 32 y → v ≡ three_right b 35 z → w ≡ three_right b 38 v → w ≡ layout.right b 0
right_met b p q r t u = rw (u, t, r, q, p)
