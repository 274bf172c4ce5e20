use mathlib.Core.Path.{refl, ap}
use Rattle.bridge.specs.Calls.{checks_on, done_with, outcome, room_of, settled_by, rx_after, tx_after, world, key}
use Rattle.bridge.proofs.Steps.{did_misfit, fit_found, done_met}
use Rattle.bridge.proofs.take_key.Goals as goal

pub returns-in_err-fitting : goal.returns-in_err-fitting
returns-in_err-fitting c =
    let a = c.args in
    did_misfit a.s a.rx.now a.tx.now _ key c.from_residual.result c.from_residual.ensures.1 c.in_err-fitting.ensures

pub returns : goal.returns
unfolding checks_on outcome settled_by rx_after tx_after room_of
returns c =
    let a = c.args in
    let e = fit_found (world a.s a.rx.now a.tx.now) c.in_ok-fitting.ensures in
    done_met a.s a.rx.now a.tx.now e key _ _ _ _ refl (λ q. refl) (ap done_with c.pressed-t.ensures) refl refl refl c.done.ensures
