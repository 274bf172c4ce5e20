use Rattle.std.proofs.Common.{◌≡◌, ◌-◌, ◌++◌, length}
use Rattle.bridge.specs.Calls.{world}
use Rattle.transcript.specs.Transcript.{line_out, asks}
use Rattle.transcript.proofs.passing.line_out.Given as goal

abbrev pub invariant-loop : goal.invariant-loop
invariant-loop l = record {
  text : l.line.items ++ line_out (asks - l.counter) (world l.t l.rx l.tx) ≡ line_out asks (world l.initial.t l.rx l.tx);
  size : length l.line.items ≡ l.counter;
}
