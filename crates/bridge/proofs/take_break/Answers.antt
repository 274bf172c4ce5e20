use mathlib.Core.Path.{refl, ap}
use Rattle.state.proofs.Fits.{rx_fits}
use Rattle.bridge.specs.Calls.{checks_on, done_with, outcome, room_of, settled_by, rx_after, tx_after, world, line_break}
use Rattle.bridge.proofs.Steps.{did_misfit, fit_found, done_met}
use Rattle.bridge.proofs.take_break.Goals as goal

pub returns-in_err-fitting : goal.returns-in_err-fitting
returns-in_err-fitting c =
    let a = c.args in
    did_misfit a.s a.rx.now a.tx.now _ line_break c.from_residual.result c.from_residual.ensures.1 c.in_err-fitting.ensures

pub mark_break-requires : goal.mark_break-requires
mark_break-requires c =
    let a = c.args in
    rx_fits a.s a.rx.now a.tx.now (fit_found (world a.s a.rx.now a.tx.now) c.in_ok-fitting.ensures)

pub returns : goal.returns
unfolding checks_on outcome settled_by rx_after tx_after room_of
returns c =
    let a = c.args in
    let e = fit_found (world a.s a.rx.now a.tx.now) c.in_ok-fitting.ensures in
    done_met a.s a.rx.now a.tx.now e line_break _ _ _ _ refl (λ q. refl)
    (ap done_with c.broken-t.ensures) refl c.mark_break.ensures.cells refl c.done.ensures
