-- A call is refused and leaves all as it was, or is done. Assumes nothing.
use Prim.Native.Nat.{ℕ}
use native.Mathlib.Omega.{arith}
use mathlib.Core.Path.{◌≡◌, refl}
use mathlib.Core.Bool.{Bool, true, false, cond, not, false≢true}
use lib.Dec.{eqb, ltb}
use borrow.Author.Tests.{eqb-true, eqb-false, not-false}
use Rattle.answers.specs.Refusals.{first_refusal}
use Rattle.branches.proofs.Branches.{by_cond}
use Rattle.registers.specs.Writing.{write_checks}
use Rattle.line.specs.HoldingOff.{is_next}
use Rattle.loopside.specs.LoopToLine.{busy}
use Rattle.bridge.specs.Calls.{held_line, next_of, OnState, write, take_line_byte, loop_frame, Call, on, World, Did}
use Rattle.bridge.specs.Calls.{checks_on, checks, not_refused, refused_or, step, refusal}
use Rattle.bridge.proofs.Checks.{write_passed}
use Rattle.laws.specs.Observers.{taken}
use Rattle.laws.specs.Fitting.{Fits}

pub by_refusal : (P : Did → Type 0) (c : Call) (w : World) → (first_refusal (checks c w) ≡ 0 → P (not_refused c w)) →
    ((first_refusal (checks c w) ≡ 0 → ⊥) → P (refusal (first_refusal (checks c w)) w)) → P (step c w)
unfolding step refused_or
by_refusal P c w p q =
    by_cond P (eqb (first_refusal (checks c w)) 0) _ _ (λ e. p (eqb-true _ 0 e)) (λ e. q (eqb-false _ 0 e))

-- ---- what no refusal tells

no_check : (t : Bool) (k n : ℕ) → (k ≡ 0 → ⊥) → cond t k n ≡ 0 → (t ≡ false) × (n ≡ 0)
no_check true k n h e = absurd (h e)
no_check false k n h e = (refl, e)

-- the state fits, and no check after that is given
pub fitting : (c : OnState) (w : World) → first_refusal (checks (on c) w) ≡ 0 → Fits w × (first_refusal (checks_on c w) ≡ 0)
unfolding checks
fitting c w e = go _ _ e
  where
    go : (t : Bool) (n : ℕ) → cond (not t) 2 n ≡ 0 → (t ≡ true) × (n ≡ 0)
    go true n e = (refl, e)
    go false n e = absurd (omega arith)

pub write_fitting : (n v : ℕ) (w : World) → first_refusal (checks (on (write n v)) w) ≡ 0 →
    Fits w × ((first_refusal (write_checks w.state.regs n v) ≡ 0) × (held_line w.state n ≡ false))
write_fitting n v w e = let x = fitting (write n v) w e in (x.0, write_passed w n v x.1)

pub frame_fitting : (f : ℕ) (w : World) → first_refusal (checks (on (loop_frame f)) w) ≡ 0 → Fits w × ((ltb 2047 f ≡ false) × (busy w.state f ≡ false))
unfolding checks_on
frame_fitting f w e =
    let x = fitting (loop_frame f) w e in
    let y = no_check (ltb 2047 f) 3 _ (λ h. omega arith) x.1 in
    (x.0, (y.0, (no_check (busy w.state f) 4 0 (λ h. omega arith) y.1).0))

pub take_fitting : (b : ℕ) (w : World) → first_refusal (checks (on (take_line_byte b)) w) ≡ 0 → Fits w × (is_next (next_of w) b ≡ true)
unfolding checks_on
take_fitting b w e =
    let x = fitting (take_line_byte b) w e in
    (x.0, not-false (is_next (next_of w) b) (no_check (not (is_next (next_of w) b)) 12 0 (λ h. omega arith) x.1).0)

-- a call on a state that is not refused has one that fits
pub taken_fits : (c : OnState) (w : World) → taken (step (on c) w).said ≡ true → Fits w
taken_fits c w = by_refusal (λ (d : Did). taken d.said ≡ true → Fits w) (on c) w (λ e _. (fitting c w e).0) (λ _ h. absurd (false≢true h))
