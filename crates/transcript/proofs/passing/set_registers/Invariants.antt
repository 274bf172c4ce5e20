use Rattle.std.proofs.Common.{◌≡◌, ◌-◌, ◌*◌, ◌/◌, length}
use Rattle.bridge.specs.Calls.{world}
use Rattle.transcript.specs.Transcript.{set_registers}
use Rattle.transcript.proofs.passing.set_registers.Given as goal

abbrev pub invariant-loop-number : goal.invariant-loop-number
invariant-loop-number l =
    set_registers (length l.pairs / 2 - l.number-index) l.pairs (2 * l.number-index) (world l.t l.rx l.tx)
    ≡ set_registers (length l.pairs / 2) l.pairs 0 (world l.initial.t l.rx l.tx)
