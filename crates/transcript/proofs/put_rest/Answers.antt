use Rattle.std.proofs.Common.{arith, ◌+◌, ◌*◌, ◌∙◌, ◌++◌, List, ℕ, ap, append_assoc}
use Rattle.transcript.specs.Transcript.{rest_text}
use Rattle.transcript.proofs.Turns.{line_in_cut, text_cut, world_cut}
use Rattle.transcript.proofs.put_rest.Goals as goal

pub returns : goal.returns
unfolding rest_text
returns c =
    let x = c.args.x.now in
    let p = c.args.p in
    let all = c.requires.whole.all in
    let bytes = c.line_bytes_in-t.ensures ∙ line_in_cut x (4 + 2 * p.regs) p.bytes _ (omega (arith, all)) in
    let frames = text_cut x (6 + 2 * p.regs + p.bytes) p.frames _ (omega (arith, all)) in
    let text = c.offer_frames-u.ensures.text ∙ ap (λ (bs : List ℕ). c.args.page.now.bytes ++ bs) frames in
    let reached = c.offer_frames-u.ensures.world ∙ world_cut x (6 + 2 * p.regs + p.bytes) p.frames _ (omega (arith, all)) in
    c.put_last.ensures ∙ rw (text, reached, bytes, append_assoc)
