use Rattle.std.proofs.Common.{sym, ◌∙◌}
use Rattle.loopside.proofs.Taken.{taken_back, taken_passed, taken_command, taken_ready, taken_identify, identify_met}
use Rattle.loopside.proofs.frame_taken.Goals as goal

pub returns-then-s-ge-SENDING_DATA : goal.returns-then-s-ge-SENDING_DATA
returns-then-s-ge-SENDING_DATA c =
    taken_back _ _ _ _ _ c.requires.tx_fits.ring.within _ (sym c.is_data.ensures ∙ c.if-is_data.true) c.if-s-ge-SENDING_DATA.true c.back.ensures c.settle.ensures

pub returns-then-is_data : goal.returns-then-is_data
returns-then-is_data c =
    taken_passed _ _ _ _ _ c.requires.tx_fits.ring.within _ _ (sym c.is_data.ensures ∙ c.if-is_data.true) c.if-s-ge-SENDING_DATA.false
    c.pass_data.ensures c.settle-then-is_data.ensures

pub returns-then-control-eq4 : goal.returns-then-control-eq4
returns-then-control-eq4 c =
    taken_command _ _ _ _ _ c.requires.tx_fits.ring.within (sym c.is_data.ensures ∙ c.if-is_data.false) (sym c.control-control.ensures ∙ c.if-control-eq4.true) c.command.ensures

pub returns-then-control-eq5 : goal.returns-then-control-eq5
returns-then-control-eq5 c =
    let q = c.control-control.ensures in
    taken_ready _ _ _ _ _ c.requires.tx_fits.ring.within (sym c.is_data.ensures ∙ c.if-is_data.false) (λ e. c.if-control-eq4.false (q ∙ e)) _ (sym q ∙ c.if-control-eq5.true)
    c.readied.ensures c.settle-then-control-eq5.ensures

pub returns : goal.returns
returns c =
    let q = c.control-control.ensures in
    taken_identify _ _ _ _ _ c.requires.tx_fits.ring.within (sym c.is_data.ensures ∙ c.if-is_data.false) (λ e. c.if-control-eq4.false (q ∙ e)) _ (λ e. c.if-control-eq5.false (q ∙ e))
    (identify_met _ _ _ c.serviced.ensures) c.settle-2.ensures
