use mathlib.Core.Path.{ap}
use mathlib.Core.Bool.{not}
use native.Mathlib.Omega.{arith}
use mathlib.Core.Path.{refl, ◌∙◌}
use Rattle.state.proofs.Fits.{is_misfit, is_fit}
use Rattle.codec.proofs.Same.{other_length, state_if_right, none_if_wrong, means, means_none}
use Rattle.block.specs.Packed.{layout}
use Rattle.block.proofs.meaning.Goals as goal

pub returns-then-b-ne-LENGTH : goal.returns-then-b-ne-LENGTH
returns-then-b-ne-LENGTH c = c.no_state.ensures ∙ means_none layout _ _ _ (other_length layout _ c.if-b-ne-LENGTH.true) refl

pub returns-then-not-right : goal.returns-then-not-right
returns-then-not-right c =
    let b = c.args.b.now in
    c.no_state-then-not-right.ensures ∙ means_none layout _ _ _ (none_if_wrong layout b (is_misfit c.right.ensures (ap not c.if-not-right.true))) refl

pub returns : goal.returns
returns c =
    let b = c.args.b.now in
    let e = is_fit c.right.ensures (ap not c.if-not-right.false) in
    c.unpack.ensures ∙ means layout _ _ _ (state_if_right layout b c.if-b-ne-LENGTH.false (λ k. omega (arith, c.shared_slice_known-1.given k)) e) refl
