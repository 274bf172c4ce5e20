-- Which orders are a device clear. Assumes nothing.
use Prim.Native.Nat.{ℕ, ◌-◌, ◌%◌, ◌≤◌}
use native.Mathlib.Omega.{arith}
use mathlib.Core.Path.{◌≡◌, refl, sym, ◌∙◌}
use mathlib.Core.Bool.{Bool, false, ◌&&◌, ◌||◌, not}
use lib.Dec.{eqb}
use borrow.Author.Tests.{eqb-true, ne_eqb}
use Rattle.branches.proofs.Branches.{by_cond}
use Rattle.role.specs.declared.Role.{Role}
use Rattle.role.specs.declared.Order.{Order}
use Rattle.role.specs.Orders.{own_address, listen_order, talk_order, other_order, order_of, is_device_clear, is_clear}

-- which commands are a device clear
pub clear_order : (home : ℕ) (r : Role) (d : ℕ) → is_clear (order_of home r d) ≡ is_device_clear r.listener d
unfolding order_of listen_order talk_order other_order
clear_order home r d =
    by_cond (λ o. is_clear o ≡ rest) (eqb (d - d % 32) 32) _ _
    (λ e. by_cond Other (eqb (d % 32) 31) _ _ (λ _. refl) (λ _. by_cond Other (eqb (d % 32) (own_address home r)) _ _ (λ _. refl) (λ _. refl)) ∙ sym (high (omega (arith, eqb-true (d - d % 32) 32 e))))
    (λ _. by_cond (λ o. is_clear o ≡ rest) (eqb (d - d % 32) 64) _ _
    (λ e. by_cond Other (eqb (d % 32) (own_address home r) && not (eqb (d % 32) 31)) _ _ (λ _. refl) (λ _. refl) ∙ sym (high (omega (arith, eqb-true (d - d % 32) 64 e))))
    (λ _. by_cond (λ o. is_clear o ≡ rest) rest _ _ (λ e. sym e)
    (λ e. by_cond Other (eqb d 144) _ _ (λ _. refl)
    (λ _. by_cond Other (eqb d 146) _ _ (λ _. refl)
    (λ _. by_cond Other (eqb d 147) _ _ (λ _. refl)
    (λ _. by_cond Other (eqb d 1 && r.listener) _ _ (λ _. refl)
    (λ _. by_cond Other (eqb d 154) _ _ (λ _. refl) (λ _. refl)))))
    ∙ sym e)))
  where
    rest : Bool
    rest = is_device_clear r.listener d

    Other : Order → Type 0
    Other o = is_clear o ≡ false

    high : 32 ≤ d → rest ≡ false
    high h = λ i. ne_eqb d 20 (λ e. omega arith) i || (ne_eqb d 4 (λ e. omega arith) i && r.listener)
