use Rattle.codec.specs.Blocks.{unpacked}
use Rattle.block.proofs.reading.unpack.Goals as goal

pub returns : goal.returns
unfolding unpacked
returns c =
    λ i. record {
      margin = c.read-margin.ensures i;
      regs = c.registers_at-regs.ensures i;
      talker = c.talker_at-talker.ensures i;
      remote = c.remote_at-remote.ensures i;
      rx = c.ring_at-rx.ensures i;
      tx = c.ring_at-tx.ensures i;
      line = c.line_at-line.ensures i;
      notes = c.notes_at-notes.ensures i;
      counts = c.counts_at-counts.ensures i;
    }
