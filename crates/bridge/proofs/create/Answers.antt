use mathlib.Core.Path.{sym, ◌∙◌}
use Rattle.bridge.proofs.Steps.{create_done, create_refused}
use Rattle.bridge.proofs.create.Goals as goal

pub returns-then-not-sizes_obeyed : goal.returns-then-not-sizes_obeyed
returns-then-not-sizes_obeyed c =
    let a = c.args in
    create_refused _ a.rx.now a.tx.now (sym c.sizes_obeyed.ensures ∙ c.if-not-sizes_obeyed.true)

pub returns : goal.returns
returns c =
    let a = c.args in
    create_done _ a.rx.now a.tx.now _ c.start.ensures (sym c.sizes_obeyed.ensures ∙ c.if-not-sizes_obeyed.false)
