-- The test and the meaning of a fitting role are one, and what keeps a role fitting.
-- Assumes nothing.
use Prim.Native.Nat.{ℕ, ◌≤◌}
use native.Mathlib.Omega.{arith}
use mathlib.Core.Path.{◌≡◌, refl, sym, ◌∙◌}
use mathlib.Core.Bool.{Bool, true, false, ◌&&◌, not, false≢true, and-eq-true_iff, and-true, and-false}
use lib.Dec.{leb}
use borrow.Author.Tests.{leb-true, leb-false, le-leb, not-true}
use Rattle.role.specs.declared.Role.{Role}
use Rattle.role.specs.Role.{start_role, with_address, with_phase}
use Rattle.role.specs.RoleFit.{Apart, Fit, fit_test}

-- a listener is no talker, as a test and as a fact
apart_true : (t : ℕ) (l : Bool) → not (leb 1 t && l) ≡ true → l ≡ true → t ≡ 0
apart_true t false e h = absurd (false≢true h)
apart_true t true e h = omega (arith, leb-false 1 t (sym (and-true (leb 1 t)) ∙ not-true _ e))

apart_test : (t : ℕ) (l : Bool) → (l ≡ true → t ≡ 0) → not (leb 1 t && l) ≡ true
apart_test t false h = rw (and-false (leb 1 t))
apart_test t true h = rw (h refl)

pub fit_true : (r : Role) → fit_test r ≡ true → Fit r
fit_true r e =
    let e₁ = (and-eq-true_iff (leb r.address 31 && leb r.phase 3) _).0 e in
    let e₂ = (and-eq-true_iff (leb r.address 31) _).0 e₁.0 in
    record { range = leb-true _ _ e₂.0; phase = leb-true _ _ e₂.1; apart = apart_true r.phase r.listener e₁.1 }

pub fit_test_lem : (r : Role) → Fit r → fit_test r ≡ true
fit_test_lem r f = rw (le-leb _ _ f.range, le-leb _ _ f.phase, apart_test r.phase r.listener f.apart)

pub fit_start : Fit start_role
fit_start = record { range = omega arith; phase = omega arith; apart = λ l. refl }

-- another phase keeps a talker no listener
pub talker_apart : (r : Role) (t : ℕ) → 1 ≤ r.phase → Apart r → Apart (with_phase r t)
talker_apart r t h a = λ l. absurd (omega (arith, a l))

pub fit_phase : (r : Role) (t : ℕ) → 1 ≤ r.phase → t ≤ 3 → Fit r → Fit (with_phase r t)
fit_phase r t h g f = record { range = f.range; phase = g; apart = talker_apart r t h f.apart }

-- and no talker is no talker and listener at once
pub fit_idle : (r : Role) → Fit r → Fit (with_phase r 0)
fit_idle r f = record { range = f.range; phase = omega arith; apart = λ l. refl }

pub fit_address : (r : Role) (a : ℕ) → a ≤ 31 → Fit r → Fit (with_address r a)
fit_address r a h f = record { range = h; phase = f.phase; apart = f.apart }
