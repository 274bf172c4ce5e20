use mathlib.Core.Path.{ap}
use mathlib.Core.Bool.{not}
use Rattle.state.proofs.Fits.{is_misfit, is_fit, tx_fits}
use Rattle.bridge.specs.Calls.{transmit}
use Rattle.bridge.proofs.Steps.{show_misfit, show_fit}
use Rattle.bridge.proofs.show_transmit.Goals as goal

pub returns-then-not-state_fits : goal.returns-then-not-state_fits
returns-then-not-state_fits c =
    let a = c.args in
    show_misfit a.s a.rx.now a.tx.now (is_misfit c.state_fits.ensures (ap not c.if-not-state_fits.true)) transmit

pub show-requires : goal.show-requires
show-requires c =
    let a = c.args in
    (tx_fits a.s a.rx.now a.tx.now (is_fit c.state_fits.ensures (ap not c.if-not-state_fits.false))).ring

pub returns : goal.returns
returns c =
    let a = c.args in
    show_fit a.s a.rx.now a.tx.now (is_fit c.state_fits.ensures (ap not c.if-not-state_fits.false)) transmit _ c.show.ensures.bytes
