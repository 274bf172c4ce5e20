use Rattle.std.proofs.Common.{arith, ◌≡◌, ◌∙◌, ap, subst}
use Rattle.answers.specs.Answers.{refused, number_of, done}
use Rattle.state.specs.declared.State.{State}
use Rattle.bridge.specs.Calls.{world, Did}
use Rattle.laws.proofs.OneResult.{create_state}
use Rattle.transcript.specs.Transcript.{Sets, set_registers}
use Rattle.transcript.proofs.Start.{made}
use Rattle.transcript.proofs.Turns.{set_cut}
use Rattle.transcript.proofs.set_up.Goals as goal

pub returns-in_err-made : goal.returns-in_err-made
returns-in_err-made c =
    let given : refused (number_of c.in_err-made.field-0.0) ≡ done =
    ap (λ (d : Did). d.said) c.in_err-made.ensures ∙ made _ _ c.requires.stores.0 c.requires.stores.1 in
    cc

pub returns : goal.returns
returns c =
    let x = c.args.x.now in
    let n = c.args.p.regs in
    let cut = set_cut x 2 n _ (omega (arith, c.requires.whole.all)) in
    let made = ap (λ (s : State). set_registers n x 2 (world s c.args.rx.now c.args.tx.now)) (create_state 8 _ _ _ c.in_ok-made.ensures) in
    subst (Sets c.set_registers.result) (cut ∙ made) c.set_registers.ensures
