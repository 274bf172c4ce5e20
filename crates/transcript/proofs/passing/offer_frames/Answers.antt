use Rattle.std.proofs.Common.{arith, refl, ◌≡◌, ◌*◌, ◌∙◌}
use Rattle.transcript.specs.Input.{high}
use Rattle.transcript.proofs.Turns.{high_pair, frames_again, frames_end, text_again, text_ends}
use Rattle.transcript.proofs.passing.offer_frames.Goals as goal

pub loop-frame-preserved : goal.loop-frame-preserved
loop-frame-preserved c =
    let frame : c.from.result ≡ high c.args.frames.now (2 * c.loop-frame.frame-index) =
    high_pair _ _ (omega arith) c.as_chunks.ensures.front (c.from.ensures ∙ c.from_be_bytes.ensures) in
    let done = c.offer-t.ensures in
    let so_far = c.loop-frame.invariant in
    record {
      reached = frames_again _ _ _ _ _ _ (omega arith) frame done.world so_far.reached;
      text = text_again _ _ _ _ _ _ _ _ (omega arith) frame refl done.world done.text so_far.text;
      short = omega (arith, done.short, so_far.short);
    }

pub returns-clause-world : goal.returns-clause-world
returns-clause-world c = frames_end _ _ _ _ (omega arith) c.loop-frame.invariant.reached

pub returns-clause-text : goal.returns-clause-text
returns-clause-text c = text_ends _ _ _ _ (omega arith) c.loop-frame.invariant.text
