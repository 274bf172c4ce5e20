-- What holds of a refusal, and of a call that is not refused, holds of the call. Assumes nothing.
use Prim.Native.Nat.{ℕ}
use mathlib.Core.Path.{◌≡◌}
use mathlib.Core.Bool.{true, false≢true}
use lib.Dec.{eqb}
use borrow.Author.Tests.{eqb-true}
use Rattle.branches.proofs.Branches.{by_cond}
use Rattle.answers.specs.Refusals.{first_refusal}
use Rattle.bridge.specs.Calls.{on, loop_frame, World, Did, checks, refused_or, refusal}
use Rattle.laws.specs.Observers.{taken}
use Rattle.laws.proofs.Refusing.{fitting}
use Rattle.runs.proofs.Shapes.{Fits}

pub or_refused : (P : Did → Type 0) (n : ℕ) (d : Did) (w : World) → P (refusal n w) → (n ≡ 0 → P d) → P (refused_or n d w)
unfolding refused_or
or_refused P n d w r k = by_cond P (eqb n 0) d (refusal n w) (λ e. k (eqb-true n 0 e)) (λ _. r)

pub if_taken : (P : Did → Type 0) (n : ℕ) (d : Did) (w : World) → (n ≡ 0 → P d) → taken (refused_or n d w).said ≡ true → P (refused_or n d w)
if_taken P n d w k = or_refused (λ (x : Did). taken x.said ≡ true → P x) n d w (λ e. absurd (false≢true e)) (λ e _. k e)

pub frame_fits : (f : ℕ) (w : World) → first_refusal (checks (on (loop_frame f)) w) ≡ 0 → Fits w
frame_fits f w e = (fitting (loop_frame f) w e).0
