-- A command is obeyed as the laws of the role and of the remote flags say. Assumes nothing.
use Prim.Native.Nat.{ℕ, ◌+◌, ◌≤◌}
use native.Mathlib.Omega.{arith}
use mathlib.Core.Path.{◌≡◌, ap, ◌∙◌}
use mathlib.Core.Bool.{◌&&◌, not}
use lib.Dec.{eqb}
use Rattle.role.specs.declared.Role.{Role}
use Rattle.role.specs.declared.remote.Remote.{Remote}
use Rattle.role.specs.Orders.{own_address, order_of}
use Rattle.role.specs.Commands.{obeyed_role}
use Rattle.role.specs.Remote.{obeyed_remote}
use Rattle.role.proofs.OrderLaws.{own_31}
use Rattle.role.proofs.ByNumbers.{calls, role_by, remote_by, nobodys, role_right, remote_right}
use Rattle.laws.specs.Roles.{commanded, commanded_remote}

-- the order is obeyed as the paper's list says
pub obeyed_right : (r : Role) (m : Remote) → r.address ≤ 31 → (d : ℕ) →
    (obeyed_role r (order_of 31 r d) ≡ commanded r d) × (obeyed_remote m (order_of 31 r d) ≡ commanded_remote r m d)
unfolding commanded commanded_remote
obeyed_right r m A d = (
  role_right 31 (omega arith) r A d ∙ (λ i. role_by (ours 32 i) (ours 64 i) r d),
  remote_right 31 (omega arith) r A d m ∙ (λ i. remote_by (ours 32 i) r m d),
)
  where
    -- our listen or talk address: at home 31 our address is the field
    ours : (k : ℕ) → calls k (own_address 31 r) d ≡ (eqb d (k + r.address) && not (eqb r.address 31))
    ours k = ap (λ (a : ℕ). calls k a d) (own_31 r) ∙ nobodys k r.address d
