use Rattle.std.proofs.Common.{◌≡◌, ◌-◌, length}
use Rattle.bridge.specs.Calls.{world}
use Rattle.transcript.specs.Transcript.{line_bytes_in}
use Rattle.transcript.proofs.passing.line_bytes_in.Given as goal

abbrev pub invariant-loop-b : goal.invariant-loop-b
invariant-loop-b l =
    line_bytes_in (length l.bytes - l.b-index) l.bytes l.b-index (world l.t l.rx l.tx)
    ≡ line_bytes_in (length l.bytes) l.bytes 0 (world l.initial.t l.initial.rx l.tx)
