use Rattle.state.proofs.Fits.{tx_fits}
use Rattle.bridge.specs.Calls.{world}
use Rattle.bridge.proofs.Steps.{asked_misfit, fit_found, ask_done}
use Rattle.bridge.proofs.ask_line_byte.Goals as goal

pub returns-in_err-fitting : goal.returns-in_err-fitting
returns-in_err-fitting c =
    let a = c.args in
    asked_misfit a.s a.rx.now a.tx.now _ c.from_residual.result c.from_residual.ensures.1 c.in_err-fitting.ensures

pub next_out-o-requires : goal.next_out-o-requires
next_out-o-requires c =
    let a = c.args in
    tx_fits a.s a.rx.now a.tx.now (fit_found (world a.s a.rx.now a.tx.now) c.in_ok-fitting.ensures)

pub returns : goal.returns
returns c =
    let a = c.args in
    let e = fit_found (world a.s a.rx.now a.tx.now) c.in_ok-fitting.ensures in
    ask_done a.s a.rx.now a.tx.now e _ _ c.next_out-o.ensures c.out_answer.ensures
