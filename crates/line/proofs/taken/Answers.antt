use Rattle.std.proofs.Common.{sym, subst, ◌∙◌}
use Rattle.store.specs.Promises.{Put}
use Rattle.line.proofs.Parts.{taken_flow, taken_stored, taken_lost}
use Rattle.line.proofs.taken.Goals as goal

pub returns-then-is_go_or_stop : goal.returns-then-is_go_or_stop
returns-then-is_go_or_stop c =
    taken_flow _ _ _ _ _ (sym c.is_go_or_stop.ensures ∙ c.if-is_go_or_stop.true) c.permitted.ensures c.room.ensures c.requires.ring.within

pub returns-in-Some : goal.returns-in-Some
returns-in-Some c =
    let p = subst (λ x. Put c.args.rx.now c.args.s.rx x c.put-o.new.s c.put-o.result) c.from.ensures c.put-o.ensures in
    taken_stored _ _ _ _ _ (sym c.is_go_or_stop.ensures ∙ c.if-is_go_or_stop.false) _ p _ c.in-Some.is c.stored-state.ensures

pub returns-in-None : goal.returns-in-None
returns-in-None c =
    let p = subst (λ x. Put c.args.rx.now c.args.s.rx x c.put-o.new.s c.put-o.result) c.from.ensures c.put-o.ensures in
    taken_lost _ _ _ _ _ (sym c.is_go_or_stop.ensures ∙ c.if-is_go_or_stop.false) _ p c.in-None.is c.lost-state.ensures c.requires.ring.within
