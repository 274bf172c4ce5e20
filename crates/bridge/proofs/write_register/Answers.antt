use mathlib.Core.Path.{refl, sym, ap, ◌∙◌}
use mathlib.Core.Bool.{cond}
use Rattle.state.proofs.Fits.{rx_fits}
use Rattle.line.specs.HoldingOff.{after_write}
use Rattle.registers.proofs.Refusals.{accepted_written}
use Rattle.bridge.specs.Calls.{checks_on, done_with, outcome, room_of, settled_by, rx_after, tx_after, write, world}
use Rattle.bridge.proofs.Checks.{write_let}
use Rattle.bridge.proofs.Steps.{did_misfit, fit_found, write_exit, write_held, done_met}
use Rattle.bridge.proofs.write_register.Goals as goal

pub returns-in_err-fitting : goal.returns-in_err-fitting
returns-in_err-fitting c =
    let a = c.args in
    did_misfit a.s a.rx.now a.tx.now _ (write a.number a.value) c.from_residual.result c.from_residual.ensures.1 c.in_err-fitting.ensures

pub returns-in_err-refused : goal.returns-in_err-refused
returns-in_err-refused c =
    let a = c.args in
    let e = fit_found (world a.s a.rx.now a.tx.now) c.in_ok-fitting.ensures in
    let sent = c.from_residual-in_err-refused in
    write_exit a.s a.rx.now a.tx.now e a.number a.value _ _ sent.ensures.1 c.in_err-refused.ensures

pub returns-then-held_line : goal.returns-then-held_line
returns-then-held_line c =
    let a = c.args in
    let e = fit_found (world a.s a.rx.now a.tx.now) c.in_ok-fitting.ensures in
    write_held a.s a.rx.now a.tx.now e a.number a.value c.in_ok-refused.ensures (sym c.held_line.ensures ∙ c.if-held_line.true)

pub after_write-t-requires : goal.after_write-t-requires
after_write-t-requires c =
    let a = c.args in
    (rx_fits a.s a.rx.now a.tx.now (fit_found (world a.s a.rx.now a.tx.now) c.in_ok-fitting.ensures)).ring.within

pub returns : goal.returns
unfolding checks_on outcome settled_by rx_after tx_after room_of
returns c =
    let a = c.args in
    let e = fit_found (world a.s a.rx.now a.tx.now) c.in_ok-fitting.ensures in
    let ok = sym c.in_ok-refused.ensures in
    let free = sym c.held_line.ensures ∙ c.if-held_line.false in
    let put = accepted_written _ _ _ _ ok c.written-g.ensures in
    done_met a.s a.rx.now a.tx.now e (write a.number a.value) _ _ _ _
    (write_let (world a.s a.rx.now a.tx.now) a.number a.value ok ∙ (λ i. cond (free i) 10 0)) (λ q. refl)
    (ap done_with (c.after_write-t.ensures ∙ ap (after_write a.s a.number) put)) refl refl refl c.done.ensures
