-- An ask and a take by their checks, and the byte that they speak of. Assumes nothing.
use Prim.Native.Nat.{ℕ}
use mathlib.Core.Path.{◌≡◌, refl, sym, ap, ◌∙◌}
use mathlib.Core.Bool.{Bool, true, false, cond, not, false≢true}
use lib.Dec.{eqb}
use lib.ListN.{length}
use borrow.Author.Tests.{eq-eqb, eqb-true}
use Rattle.std.specs.Prelude.{Option, Some, None}
use Rattle.state.specs.declared.Next.{Next}
use Rattle.state.specs.declared.Next.TheVariants.{Own, Held}
use Rattle.answers.specs.Answers.{said, byte, refused, is_byte, byte_in}
use Rattle.state.specs.Sizes.{fits}
use Rattle.line.specs.HoldingOff.{is_next, out_answer}
use Rattle.bridge.specs.Calls.{on, ask_line_byte, take_line_byte, next_of, World, Did, looked, checks_on, checks, outcome, settled_by, rx_after, tx_after}
use Rattle.bridge.specs.Calls.{room_of, not_refused, refusal, refused_or, step}
use Rattle.bridge.proofs.Steps.{settled_same}

-- the state fits the stores
abbrev pub fitted : World → Bool
fitted w = fits w.state (length w.rx) (length w.tx)

pub ask_is : (w : World) → step (on ask_line_byte) w ≡ looked (cond (fitted w) (said (out_answer (next_of w))) (refused 2)) w
unfolding step refused_or checks checks_on not_refused outcome settled_by rx_after tx_after room_of
ask_is w = rw (settled_same w.state) (go (fitted w))
  where
    go : (t : Bool) → cond (eqb (cond (not t) 2 0) 0) (looked (said (out_answer (next_of w))) w) (refusal (cond (not t) 2 0) w) ≡
        looked (cond t (said (out_answer (next_of w))) (refused 2)) w
    go true = refl
    go false = refl

pub take_is : (b : ℕ) (w : World) → step (on (take_line_byte b)) w ≡
    cond (fitted w) (cond (is_next (next_of w) b) (not_refused (on (take_line_byte b)) w) (refusal 12 w)) (refusal 2 w)
unfolding step refused_or checks checks_on
take_is b w = go (fitted w) (is_next (next_of w) b) (not_refused (on (take_line_byte b)) w)
  where
    go : (t u : Bool) (d : Did) →
        cond (eqb (cond (not t) 2 (cond (not u) 12 0)) 0) d (refusal (cond (not t) 2 (cond (not u) 12 0)) w) ≡ cond t (cond u d (refusal 12 w)) (refusal 2 w)
    go true true d = refl
    go true false d = refl
    go false true d = refl
    go false false d = refl

-- on a state that fits, and a byte that is next
pub ask_fits : (w : World) → fitted w ≡ true → step (on ask_line_byte) w ≡ looked (said (out_answer (next_of w))) w
ask_fits w F = ask_is w ∙ rw F

pub take_fits : (b : ℕ) (w : World) → fitted w ≡ true → is_next (next_of w) b ≡ true → step (on (take_line_byte b)) w ≡ not_refused (on (take_line_byte b)) w
take_fits b w F n = take_is b w ∙ rw (F, n)

-- ---- the byte named is the one that is answered

pub named : (o : Option Next) (b : ℕ) → is_next o b ≡ true → said (out_answer o) ≡ byte b
unfolding is_next out_answer said
named (Some (Own x)) b e = ap byte (eqb-true x b e)
named (Some (Held x)) b e = ap byte (eqb-true x b e)
named None b e = absurd (false≢true e)

pub not_named : (o : Option Next) (b : ℕ) → is_next o b ≡ false → said (out_answer o) ≡ byte b → ⊥
unfolding is_next out_answer said is_byte byte_in
not_named (Some (Own x)) b e q = false≢true (sym e ∙ eq-eqb x b (ap byte_in q))
not_named (Some (Held x)) b e q = false≢true (sym e ∙ eq-eqb x b (ap byte_in q))
not_named None b e q = false≢true (ap is_byte q)

-- ---- what an ask leaves, and what it finds

pub ask_leaves : (w : World) → (step (on ask_line_byte) w).world ≡ w
ask_leaves w = ap (λ (d : Did). d.world) (ask_is w)

-- where it answers a byte the state fits, and the byte is next
pub asked_next : (b : ℕ) (w : World) → (step (on ask_line_byte) w).said ≡ byte b → (fitted w ≡ true) × (is_next (next_of w) b ≡ true)
unfolding is_byte
asked_next b w q = go (fitted w) (is_next (next_of w) b) refl refl (ap (λ (d : Did). d.said) (sym (ask_is w)) ∙ q)
  where
    go : (t u : Bool) → fitted w ≡ t → is_next (next_of w) b ≡ u → cond t (said (out_answer (next_of w))) (refused 2) ≡ byte b → (t ≡ true) × (u ≡ true)
    go true true F e q = (refl, refl)
    go true false F e q = absurd (not_named (next_of w) b e q)
    go false u F e q = absurd (false≢true (ap is_byte q))
