use mathlib.Core.Path.{refl}
use Rattle.state.proofs.Fits.{rx_fits}
use Rattle.bridge.specs.Calls.{line_byte, world}
use Rattle.bridge.proofs.Steps.{told_misfit, fit_found, line_done}
use Rattle.bridge.proofs.line_byte.Goals as goal

pub returns-in_err-fitting : goal.returns-in_err-fitting
returns-in_err-fitting c =
    let a = c.args in
    told_misfit a.s a.rx.now a.tx.now _ (line_byte a.b) c.from_residual.result c.from_residual.ensures.1 c.in_err-fitting.ensures

pub taken-t-requires : goal.taken-t-requires
taken-t-requires c =
    let a = c.args in
    rx_fits a.s a.rx.now a.tx.now (fit_found (world a.s a.rx.now a.tx.now) c.in_ok-fitting.ensures)

pub returns : goal.returns
returns c =
    let a = c.args in
    let e = fit_found (world a.s a.rx.now a.tx.now) c.in_ok-fitting.ensures in
    line_done a.s a.rx.now a.tx.now e a.b _ _ _ c.taken-t.ensures c.done.ensures refl
