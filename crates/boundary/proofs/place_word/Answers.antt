use Prim.Native.Nat.{ℕ, ◌*◌, ◌%◌, ◌<◌}
use native.Mathlib.Omega.{arith}
use mathlib.Core.Path.{◌≡◌}
use lib.Bits.{bit_or, or_shifted}
use Rattle.boundary.specs.CCalls.{place_word}
use Rattle.boundary.proofs.place_word.Goals as goal

shifted : (a b : ℕ) → a < 4294967296 → b < 4294967296 → bit_or (a * 4294967296 % 18446744073709551616) b ≡ place_word a b
shifted a b h k =
    let e : a * 4294967296 % 18446744073709551616 ≡ a * 4294967296 = omega arith in
    rw e (omega (arith, or_shifted a 32 b k))

-- the start in the upper 32 bits, and the length below it

pub returns : goal.returns
returns c = shifted c.args.start c.args.len c.requires.0 c.requires.1
