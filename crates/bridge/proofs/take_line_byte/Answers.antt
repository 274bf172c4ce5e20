use mathlib.Core.Path.{ap}
use mathlib.Core.Bool.{not}
use Rattle.state.proofs.Fits.{tx_fits}
use Rattle.bridge.specs.Calls.{world, take_line_byte}
use Rattle.bridge.proofs.Steps.{did_misfit, fit_found, take_refused, take_done}
use Rattle.bridge.proofs.take_line_byte.Goals as goal

pub returns-in_err-fitting : goal.returns-in_err-fitting
returns-in_err-fitting c =
    let a = c.args in
    did_misfit a.s a.rx.now a.tx.now _ (take_line_byte a.b) c.from_residual.result c.from_residual.ensures.1 c.in_err-fitting.ensures

pub next_out-o-requires : goal.next_out-o-requires
next_out-o-requires c =
    let a = c.args in
    tx_fits a.s a.rx.now a.tx.now (fit_found (world a.s a.rx.now a.tx.now) c.in_ok-fitting.ensures)

pub returns-then-not-is_next : goal.returns-then-not-is_next
returns-then-not-is_next c =
    let a = c.args in
    let e = fit_found (world a.s a.rx.now a.tx.now) c.in_ok-fitting.ensures in
    take_refused a.s a.rx.now a.tx.now e a.b _ _ c.next_out-o.ensures c.is_next.ensures (ap not c.if-not-is_next.true)

pub gone-t-requires-clause-tx_fits : goal.gone-t-requires-clause-tx_fits
gone-t-requires-clause-tx_fits c =
    let a = c.args in
    tx_fits a.s a.rx.now a.tx.now (fit_found (world a.s a.rx.now a.tx.now) c.in_ok-fitting.ensures)

pub returns : goal.returns
returns c =
    let a = c.args in
    let e = fit_found (world a.s a.rx.now a.tx.now) c.in_ok-fitting.ensures in
    take_done a.s a.rx.now a.tx.now e a.b _ _ _ _
    c.next_out-o.ensures c.is_next.ensures (ap not c.if-not-is_next.false)
    c.gone-t.ensures c.done.ensures
