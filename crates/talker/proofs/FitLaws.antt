-- The test and the meaning of a fitting talker are one, and what keeps a talker fitting. Assumes nothing.
use Prim.Native.Nat.{ℕ, ◌≤◌, ◌<◌}
use native.Mathlib.Omega.{arith}
use mathlib.Core.Path.{◌≡◌}
use mathlib.Core.Bool.{true}
use lib.Dec.{ltb}
use borrow.Author.Tests.{ltb-true, lt-ltb}
use Rattle.branches.proofs.Branches.{and_left, and_right, by_cond}
use Rattle.role.specs.declared.Order.{Order}
use Rattle.role.specs.Role.{is_active}
use Rattle.role.specs.RoleFit as role-fit
use Rattle.role.proofs.FitLaws as role-laws
use Rattle.role.proofs.CommandLaws as command-laws
use Rattle.role.proofs.ReadyLaws as ready-laws
use Rattle.talker.specs.declared.Under.{Under}
use Rattle.talker.specs.declared.Talker.{Talker}
use Rattle.talker.specs.Talker.{no_frame, start_talker}
use Rattle.talker.specs.Obeying.{forgotten, obeyed_talker}
use Rattle.talker.specs.Readied.{assigned_talker, finishing_talker}
use Rattle.talker.specs.UnderWay.{talking, ended_talker}
use Rattle.talker.specs.TalkerFit.{Fit, fit_test}

pub fit_true : (t : Talker) → fit_test t ≡ true → Fit t
unfolding fit_test
fit_true t e =
    let r = role-fit.fit_test t.role in
    let f = ltb t.under.frame 1024 in
    record { role = role-laws.fit_true t.role (and_left r f e); frame = ltb-true t.under.frame 1024 (and_right r f e) }

pub fit_test_lem : (t : Talker) → Fit t → fit_test t ≡ true
unfolding fit_test
fit_test_lem t f = rw (role-laws.fit_test_lem t.role f.role, lt-ltb t.under.frame 1024 f.frame)

pub fit_start : Fit start_talker
fit_start = record { role = role-laws.fit_start; frame = omega arith }

module _ (t : Talker) (fit : Fit t) where
  pub obeyed_fit : (o : Order) → Fit (obeyed_talker t o)
  unfolding obeyed_talker forgotten
  obeyed_fit o =
      record {
        role = command-laws.obeyed_fit t.role o fit.role;
        frame = by_cond (λ (u : Under). u.frame < 1024) (is_active t.role) no_frame t.under (λ _. omega arith) (λ _. fit.frame);
      }

  pub assigned_fit : (d : ℕ) → Fit (assigned_talker t d)
  assigned_fit d = record { role = ready-laws.assigned_fit t.role d fit.role; frame = fit.frame }

  pub finishing_fit : Fit (finishing_talker t)
  finishing_fit = record { role = fit.role; frame = fit.frame }

  -- a talker in another phase
  pub talking_fit : (phase f : ℕ) → 1 ≤ t.role.phase → phase ≤ 3 → f < 1024 → Fit (talking t phase f)
  unfolding talking
  talking_fit phase f h p k = record { role = role-laws.fit_phase t.role phase h p fit.role; frame = k }

  pub ended_fit : 1 ≤ t.role.phase → Fit (ended_talker t)
  ended_fit h = talking_fit 1 0 h (omega arith) (omega arith)
