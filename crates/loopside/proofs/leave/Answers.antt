use Rattle.std.proofs.Common.{ℕ, [], ◌∷◌, sym, ap, subst, ◌∙◌}
use Rattle.store.specs.Ring.{Within}
use Rattle.store.proofs.Promises.{puts_none, puts_more}
use Rattle.loopside.proofs.Parts.{adds_three, adds_one}
use Rattle.loopside.proofs.Taken.{left_met}
use Rattle.loopside.proofs.leave.Goals as goal

pub returns-then-is_end-end_inserted : goal.returns-then-is_end-end_inserted
returns-then-is_end-end_inserted c =
    let g = c.args.s.regs in
    let p = c.put-then-is_end-end_inserted-2.ensures in
    let e = c.unwrap_or-three.ensures in
    left_met _ _ _ _ _ _
    (adds_three _ _ _ _ c.is_end.ensures c.end_inserted.ensures c.if-is_end-end_inserted.true
    ∙ ap (λ (x : ℕ). x ∷ g.c02 ∷ g.c03 ∷ []) (sym c.data_byte.ensures))
    (puts_more c.put.ensures c.unwrap_or-one.ensures
    (puts_more c.put-then-is_end-end_inserted.ensures c.unwrap_or-two.ensures (puts_more p e (puts_none _ _))))
    (subst Within (sym (e ∙ p.ring)) p.fit.within)

pub returns : goal.returns
returns c =
    let p = c.put.ensures in
    let e = c.unwrap_or-one.ensures in
    left_met _ _ _ _ _ _
    (adds_one _ _ _ _ c.is_end.ensures c.end_inserted.ensures c.if-is_end-end_inserted.false ∙ ap (λ (x : ℕ). x ∷ []) (sym c.data_byte.ensures))
    (puts_more p e (puts_none _ _))
    (subst Within (sym (e ∙ p.ring)) p.fit.within)
