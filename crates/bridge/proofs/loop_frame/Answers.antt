use mathlib.Core.Path.{sym, ◌∙◌}
use Rattle.state.proofs.Fits.{rx_fits, tx_fits}
use Rattle.bridge.specs.Calls.{world, loop_frame}
use Rattle.bridge.proofs.Steps.{told_misfit, fit_found, frame_large, frame_busy, frame_done}
use Rattle.bridge.proofs.loop_frame.Goals as goal

pub returns-in_err-fitting : goal.returns-in_err-fitting
returns-in_err-fitting c =
    let a = c.args in
    told_misfit a.s a.rx.now a.tx.now _ (loop_frame a.frame) c.from_residual.result c.from_residual.ensures.1 c.in_err-fitting.ensures

pub returns-then-frame-gt2047 : goal.returns-then-frame-gt2047
returns-then-frame-gt2047 c =
    let a = c.args in
    frame_large a.s a.rx.now a.tx.now (fit_found (world a.s a.rx.now a.tx.now) c.in_ok-fitting.ensures) _ c.if-frame-gt2047.true

pub busy-requires : goal.busy-requires
busy-requires c =
    let a = c.args in
    (tx_fits a.s a.rx.now a.tx.now (fit_found (world a.s a.rx.now a.tx.now) c.in_ok-fitting.ensures)).ring.within

pub returns-then-busy : goal.returns-then-busy
returns-then-busy c =
    let a = c.args in
    let busy = sym c.busy.ensures ∙ c.if-busy.true in
    frame_busy a.s a.rx.now a.tx.now (fit_found (world a.s a.rx.now a.tx.now) c.in_ok-fitting.ensures) _ c.if-frame-gt2047.false busy

pub frame_taken-o-requires : goal.frame_taken-o-requires
frame_taken-o-requires c =
    let a = c.args in
    let e = fit_found (world a.s a.rx.now a.tx.now) c.in_ok-fitting.ensures in
    record { rx_fits = rx_fits a.s a.rx.now a.tx.now e; tx_fits = tx_fits a.s a.rx.now a.tx.now e }

pub returns : goal.returns
returns c =
    let a = c.args in
    let e = fit_found (world a.s a.rx.now a.tx.now) c.in_ok-fitting.ensures in
    let free = sym c.busy.ensures ∙ c.if-busy.false in
    frame_done a.s a.rx.now a.tx.now e _ _ _ c.if-frame-gt2047.false free c.frame_taken-o.ensures c.room-left.ensures
