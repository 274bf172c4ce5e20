-- What is known of the byte and the role where a ready frame asks something, and what ready frames keep.
-- Assumes nothing.
use Prim.Native.Nat.{ℕ, ◌+◌, ◌-◌, ◌%◌, ◌≤◌}
use native.Mathlib.Omega.{arith}
use mathlib.Core.Path.{◌≡◌}
use mathlib.Core.Bool.{true, false, ◌&&◌, and-eq-true_iff}
use lib.Dec.{eqb, leb, ltb}
use borrow.Author.Tests.{eqb-true, eq-eqb, le-leb, leb-true, ltb-true, lt-ltb}
use Rattle.branches.proofs.Branches.{by_cond, and_left, and_right, same_test}
use Rattle.role.specs.declared.Role.{Role}
use Rattle.role.specs.declared.Ready.{Ready}
use Rattle.role.specs.declared.Ready.TheVariants.{Pass, Address, Data, Status, Finish}
use Rattle.role.specs.Role.{with_address}
use Rattle.role.specs.Orders.{number_of, base_of}
use Rattle.role.specs.ReadyFrames.{gives_address, ready_of, assigned_role, after_ready}
use Rattle.role.specs.RoleFit.{Apart, Fit}
use Rattle.role.proofs.FitLaws.{fit_address}

-- a byte, a talker phase, and no address taken
pub record Asked (r : Role) (d b t : ℕ) : Type 0 where
  pub byte : d ≡ b
  pub phase : r.phase ≡ t
  pub rest : after_ready r d ≡ r

-- 128+n, n at most 30, when unassigned
pub record Given (r : Role) (d : ℕ) : Type 0 where
  pub byte : d ≡ 128 + number_of d
  pub small : number_of d ≤ 30
  pub free : r.address ≡ 31
  pub taken : after_ready r d ≡ assigned_role r d

-- what each answer tells
abbrev pub Told : Role → ℕ → Ready → Type 0
Told r d Pass = after_ready r d ≡ r
Told r d Address = Given r d
Told r d Data = Asked r d 96 1
Told r d Status = Asked r d 97 1
Told r d Finish = Asked r d 66 2

asked : (r : Role) (d b t : ℕ) → after_ready r d ≡ r → (eqb d b && eqb r.phase t) ≡ true → Asked r d b t
asked r d b t s e =
    let k = (and-eq-true_iff (eqb d b) (eqb r.phase t)).0 e in
    record { byte = eqb-true d b k.0; phase = eqb-true r.phase t k.1; rest = s }

pub given : (r : Role) (d : ℕ) → gives_address r d ≡ true → Given r d
unfolding after_ready
given r d e =
    let b = (and-eq-true_iff (eqb (base_of d) 128 && leb (number_of d) 30) (eqb r.address 31)).0 e in
    let n = (and-eq-true_iff (eqb (base_of d) 128) (leb (number_of d) 30)).0 b.0 in
    record {
      byte = omega (arith, eqb-true (base_of d) 128 n.0);
      small = leb-true (number_of d) 30 n.1;
      free = eqb-true r.address 31 b.1;
      taken = rw e;
    }

-- the address that is given, by the numbers
pub address_numbers : (r : Role) (d : ℕ) → ((leb 128 d && ltb d 159) && eqb r.address 31) ≡ gives_address r d
address_numbers r d = λ i. numbers i && eqb r.address 31
  where
    numbers : (leb 128 d && ltb d 159) ≡ (eqb (d - d % 32) 128 && leb (d % 32) 30)
    numbers =
        same_test (leb 128 d && ltb d 159) (eqb (d - d % 32) 128 && leb (d % 32) 30)
        (λ h.
        let a = leb-true 128 d (and_left (leb 128 d) (ltb d 159) h) in
        let b = ltb-true d 159 (and_right (leb 128 d) (ltb d 159) h) in
        λ i. eq-eqb (d - d % 32) 128 (omega arith) i && le-leb (d % 32) 30 (omega arith) i)
        (λ h.
        let a = eqb-true (d - d % 32) 128 (and_left (eqb (d - d % 32) 128) (leb (d % 32) 30) h) in
        let b = leb-true (d % 32) 30 (and_right (eqb (d - d % 32) 128) (leb (d % 32) 30) h) in
        λ i. le-leb 128 d (omega arith) i && lt-ltb d 159 (omega arith) i)

passed : (r : Role) (d : ℕ) → gives_address r d ≡ false → after_ready r d ≡ r
unfolding after_ready
passed r d e = rw e

pub told : (r : Role) (d : ℕ) → Told r d (ready_of r d)
unfolding ready_of
told r d =
    by_cond (Told r d) (gives_address r d) _ _ (given r d) (λ e.
    let s = passed r d e in
    by_cond (Told r d) (eqb d 96 && eqb r.phase 1) _ _ (asked r d 96 1 s) (λ e.
    by_cond (Told r d) (eqb d 97 && eqb r.phase 1) _ _ (asked r d 97 1 s) (λ e.
    by_cond (Told r d) (eqb d 66 && eqb r.phase 2) _ _ (asked r d 66 2 s) (λ e. s))))

-- the address is n
pub address_taken : (r : Role) (n : ℕ) → r.address ≡ 31 → n ≤ 30 → after_ready r (128 + n) ≡ with_address r n
unfolding after_ready
address_taken r n u h =
    let m : number_of (128 + n) ≡ n = omega arith in
    let b : base_of (128 + n) ≡ 128 = omega arith in
    rw (b, m, le-leb n 30 h, eq-eqb _ _ u)

-- ready frames keep a role fitting, and touch neither talker nor listener
pub ready_apart : (r : Role) (d : ℕ) → Apart r → Apart (after_ready r d)
unfolding after_ready
ready_apart r d a = by_cond Apart (gives_address r d) (assigned_role r d) r (λ e. a) (λ e. a)

pub assigned_fit : (r : Role) (d : ℕ) → Fit r → Fit (assigned_role r d)
assigned_fit r d f = fit_address r (number_of d) (omega arith) f

pub ready_fit : (r : Role) (d : ℕ) → Fit r → Fit (after_ready r d)
unfolding after_ready
ready_fit r d f = by_cond Fit (gives_address r d) (assigned_role r d) r (λ e. assigned_fit r d f) (λ e. f)
