use mathlib.Core.Logic.{⊎_elim}
use mathlib.Core.Path.{sym, ◌∙◌}
use Rattle.reading.specs.declared.Decision.TheVariants.{End, Data}
use Rattle.sending.proofs.Chain.{enough, end_met, data_met, wait_met, never_removed}
use Rattle.sending.proofs.send_one.Goals as goal

pub one_frame-requires-clause-n_le_len : goal.one_frame-requires-clause-n_le_len
one_frame-requires-clause-n_le_len c = enough _ _ _ End c.skipped-q.ensures.left.fit (sym c.in-End.ensures)

pub one_frame-requires-in-Data-clause-n_le_len : goal.one_frame-requires-in-Data-clause-n_le_len
one_frame-requires-in-Data-clause-n_le_len c = enough _ _ _ Data c.skipped-q.ensures.left.fit (sym c.in-Data.ensures)

pub returns-in-End : goal.returns-in-End
returns-in-End c = end_met _ _ _ _ c.requires c.skipped-q.ensures.left _ (sym c.in-End.ensures) c.one_frame.ensures

pub returns-in-Data : goal.returns-in-Data
returns-in-Data c = data_met _ _ _ _ c.requires c.skipped-q.ensures.left _ (sym c.in-Data.ensures) c.one_frame-in-Data.ensures

pub returns-in-Wait : goal.returns-in-Wait
returns-in-Wait c =
    let q = c.skipped-q.ensures in
    ⊎_elim
    (λ e. wait_met _ _ _ _ c.requires q.left (sym c.decided.ensures ∙ e))
    (λ e. never_removed _ _ _ _ _ q.stopped (sym c.decided.ensures ∙ e))
    c.in-Wait.is
