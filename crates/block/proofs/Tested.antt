-- What is tested of a block, on plain values. Assumes nothing.
use Prim.Native.Nat.{ℕ}
use mathlib.Core.Path.{◌≡◌}
use mathlib.Core.Bool.{Bool, ◌&&◌}
use mathlib.Core.List.{List}
use lib.ListN.{get_or}
use lib.Dec.{eqb, leb}
use Rattle.codec.specs.Parts.{three_right}
use Rattle.block.specs.Packed.{version, layout}

-- what the code tests is whether the bytes are right
pub right_met : (b : List ℕ) {x y z w : Bool} → x ≡ three_right b 44 (leb (get_or b 32 0) 1 && (leb (get_or b 29 0) 1 && eqb (get_or b 0 0) version)) →
    y ≡ three_right b 47 x → z ≡ three_right b 50 y → w ≡ three_right b 53 z → w ≡ layout.right b 0
right_met b p q r t = rw (t, r, q, p)
