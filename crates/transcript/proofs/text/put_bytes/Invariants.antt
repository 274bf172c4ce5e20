use Rattle.std.proofs.Common.{◌≡◌, ◌+◌, ◌*◌, ◌≤◌, ◌++◌, length, drop}
use Rattle.transcript.specs.Text.{bytes_text}
use Rattle.transcript.proofs.text.put_bytes.Given as goal

abbrev pub invariant-loop-b : goal.invariant-loop-b
invariant-loop-b l = record {
  text : l.page.bytes ++ bytes_text (drop l.b-index l.bytes) ≡ l.initial.page.bytes ++ bytes_text l.bytes;
  short : length l.page.bytes ≤ length l.initial.page.bytes + 4 * l.b-index;
}
