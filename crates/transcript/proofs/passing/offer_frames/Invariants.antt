use Rattle.std.proofs.Common.{◌≡◌, ◌+◌, ◌-◌, ◌*◌, ◌/◌, ◌≤◌, ◌++◌, length}
use Rattle.bridge.specs.Calls.{world}
use Rattle.transcript.specs.Transcript.{frames_text, frames_world}
use Rattle.transcript.proofs.passing.offer_frames.Given as goal

abbrev pub invariant-loop-frame : goal.invariant-loop-frame
invariant-loop-frame l = record {
  reached :
      frames_world (length l.frames / 2 - l.frame-index) l.frames (2 * l.frame-index) (world l.t l.rx l.tx)
      ≡ frames_world (length l.frames / 2) l.frames 0 (world l.initial.t l.rx l.initial.tx);
  text :
      l.page.bytes ++ frames_text (length l.frames / 2 - l.frame-index) l.frames (2 * l.frame-index) (world l.t l.rx l.tx)
      ≡ l.initial.page.bytes ++ frames_text (length l.frames / 2) l.frames 0 (world l.initial.t l.rx l.initial.tx);
  short : length l.page.bytes ≤ length l.initial.page.bytes + 12 * l.frame-index;
}
