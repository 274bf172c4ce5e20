use Rattle.registers.specs.Bits.{bit_not_carried}
use Rattle.registers.proofs.Wording.{bits_are}
use Rattle.registers.proofs.bit_not_carried.Goals as goal

pub returns-in-Bits : goal.returns-in-Bits
unfolding bit_not_carried
returns-in-Bits c n e = let q = bits_are n c.in-Bits.b (cc) in rw (q.1, q.0)
