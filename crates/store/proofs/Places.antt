-- The laws of going round. Assumes nothing.
use Prim.Native.Nat.{ℕ, ◌+◌, ◌-◌, ◌<◌}
use native.Mathlib.Omega.{arith}
use mathlib.Core.Path.{◌≡◌, ap, ◌∙◌}
use mathlib.Core.Logic.{⊎_elim}
use Rattle.branches.proofs.Branches.{split}
use Rattle.store.specs.Ring.{wrap}
use Rattle.store.specs.Ring.Basis.{wrap_low, wrap_high}

-- going round on the way changes nothing
pub wrap_wrap : (cap p k : ℕ) → p + k < cap + cap → wrap cap (wrap cap p + k) ≡ wrap cap (p + k)
wrap_wrap cap p k h =
    ⊎_elim
    (λ l. ap (λ (n : ℕ). wrap cap (n + k)) (wrap_low cap p l))
    (λ g. ap (λ (n : ℕ). wrap cap (n + k)) (wrap_high cap p g) ∙ wrap_low cap (p - cap + k) (omega arith) ∙ omega (arith, wrap_high cap (p + k) (omega arith)))
    (split p cap)

-- two places of a ring differ where their distances from the oldest do
pub wrap_apart : (cap a i j : ℕ) → a < cap → i < j → j < cap → wrap cap (a + i) ≡ wrap cap (a + j) → ⊥
wrap_apart cap a i j h₁ h₂ h₃ e =
    ⊎_elim
    (λ l. ⊎_elim (λ m. omega (arith, wrap_low cap (a + i) l, wrap_low cap (a + j) m)) (λ n. omega (arith, wrap_low cap (a + i) l, wrap_high cap (a + j) n)) (split (a + j) cap))
    (λ g. omega (arith, wrap_high cap (a + i) g, wrap_high cap (a + j) (omega arith)))
    (split (a + i) cap)
