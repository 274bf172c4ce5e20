-- What a condition adds to the status byte. Assumes nothing.
use Rattle.std.proofs.Common.{ℕ, ◌*◌, ◌≡◌, Bool, true, false, cond, arith}
use Rattle.std.specs.Int.{from_bool}

-- the weight of its bit where it holds, and 0 where not
pub weighs : (t : Bool) (w : ℕ) → cond t w 0 ≡ w * from_bool t
weighs true w = omega arith
weighs false w = omega arith
