-- Which orders 32+n and 64+n are, and that 31 is nobody's address.
-- Assumes nothing.
use Prim.Native.Nat.{ℕ, ◌+◌, ◌≤◌}
use native.Mathlib.Omega.{arith}
use mathlib.Core.Path.{◌≡◌, refl, ◌∙◌}
use mathlib.Core.Bool.{Bool, ◌&&◌, ◌||◌, and-false, and-not_self}
use lib.Dec.{eqb}
use borrow.Author.Tests.{eqb-true}
use Rattle.branches.proofs.Branches.{by_cond}
use Rattle.role.specs.declared.Role.{Role}
use Rattle.role.specs.Orders.{own_address, number_of, base_of, listen_order, talk_order, other_order, order_of}
use Rattle.role.specs.Commands.{merely_addressed}
use Rattle.role.specs.NobodysAddress.{Order63, Order95, Silent, UnassignedSilent}

-- with home address 31 our address is the address field
pub own_31 : (r : Role) → own_address 31 r ≡ r.address
unfolding own_address
own_31 r = by_cond (λ a. a ≡ r.address) (eqb r.address 31) 31 r.address (λ e. omega (arith, eqb-true r.address 31 e)) (λ e. refl)

pub listen_number : (home : ℕ) (r : Role) (n : ℕ) → n ≤ 31 → order_of home r (32 + n) ≡ listen_order (own_address home r) n
unfolding order_of
listen_number home r n h =
    let m : number_of (32 + n) ≡ n = omega arith in
    let b : base_of (32 + n) ≡ 32 = omega arith in
    rw (b, m)

pub talk_number : (home : ℕ) (r : Role) (n : ℕ) → n ≤ 31 → order_of home r (64 + n) ≡ talk_order (own_address home r) n
unfolding order_of
talk_number home r n h =
    let m : number_of (64 + n) ≡ n = omega arith in
    let b : base_of (64 + n) ≡ 64 = omega arith in
    rw (b, m)

pub order_63 : Order63
unfolding order_of listen_order
order_63 home r = refl

pub order_95 : Order95
unfolding order_of talk_order
order_95 home r = rw (and-false (eqb 31 (own_address home r)))

-- the flags by which an order is judged are those before the command
pub judged : (home : ℕ) (r : Role) (d : ℕ) → order_of home (merely_addressed r) d ≡ order_of home r d
unfolding order_of own_address merely_addressed
judged home r d = refl

listen_31 : (n : ℕ) → Silent (listen_order 31 n)
unfolding listen_order
listen_31 n = by_cond Silent (eqb n 31) _ _ (λ e. tt) (λ e. rw e tt)

talk_31 : (n : ℕ) → Silent (talk_order 31 n)
unfolding talk_order
talk_31 n = rw (and-not_self (eqb n 31)) tt

other_silent : (l : Bool) (d : ℕ) → Silent (other_order l d)
unfolding other_order
other_silent l d =
    by_cond Silent (eqb d 20 || (eqb d 4 && l)) _ _ (λ e. tt) (λ e.
    by_cond Silent (eqb d 144) _ _ (λ e. tt) (λ e.
    by_cond Silent (eqb d 146) _ _ (λ e. tt) (λ e.
    by_cond Silent (eqb d 147) _ _ (λ e. tt) (λ e.
    by_cond Silent (eqb d 1 && l) _ _ (λ e. tt) (λ e.
    by_cond Silent (eqb d 154) _ _ (λ e. tt) (λ e. tt))))))

pub unassigned_silent : UnassignedSilent
unfolding order_of
unassigned_silent r d h =
    let a : own_address 31 r ≡ 31 = own_31 r ∙ h in
    by_cond Silent (eqb (base_of d) 32) _ _ (λ e. rw a (listen_31 (number_of d))) (λ e.
    by_cond Silent (eqb (base_of d) 64) _ _ (λ e. rw a (talk_31 (number_of d))) (λ e. other_silent r.listener d))
