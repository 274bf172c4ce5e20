-- What every command keeps, proved once over the orders.
-- Assumes nothing.
use Prim.Native.Nat.{ℕ, ◌≤◌}
use native.Mathlib.Omega.{arith}
use mathlib.Core.Path.{◌≡◌, refl}
use mathlib.Core.Bool.{false, cond}
use lib.Dec.{leb}
use borrow.Author.Tests.{leb-false}
use Rattle.branches.proofs.Branches.{by_cond}
use Rattle.role.specs.declared.Role.{Role}
use Rattle.role.specs.declared.Order.{Order}
use Rattle.role.specs.declared.Order.TheVariants.{Unlisten, Listen, Untalk, Talk, Clear, Deselect, Enable, Disable, Local, Unassign, Nothing}
use Rattle.role.specs.Orders.{order_of}
use Rattle.role.specs.Commands.{merely_addressed, changed_role, obeyed_role, after_command}
use Rattle.role.specs.RoleFit.{Apart, Fit}
use Rattle.role.proofs.OrderLaws.{order_63, order_95}

-- a merely addressed talker is not active, an idle one stays idle, and nothing else changes
merely_phase : (r : Role) → (merely_addressed r).phase ≤ 1
unfolding merely_addressed
merely_phase r = by_cond (λ t. t ≤ 1) (leb 2 r.phase) 1 r.phase (λ e. omega arith) (λ e. omega (arith, leb-false 2 r.phase e))

still_idle : (t : ℕ) → t ≡ 0 → cond (leb 2 t) 1 t ≡ 0
still_idle t e = rw e

merely_apart : (r : Role) → Apart r → Apart (merely_addressed r)
unfolding merely_addressed
merely_apart r a = λ l. still_idle r.phase (a l)

pub record SameRest (r q : Role) : Type 0 where
  pub address : q.address ≡ r.address
  pub listener : q.listener ≡ r.listener

pub merely_rest : (r : Role) → SameRest r (merely_addressed r)
unfolding merely_addressed
merely_rest r = record { address = refl; listener = refl }

-- the orders one by one
changed_range : (r : Role) (o : Order) → r.address ≤ 31 → (changed_role r o).address ≤ 31
unfolding changed_role
changed_range r Unlisten h = h
changed_range r Listen h = h
changed_range r Untalk h = h
changed_range r Talk h = h
changed_range r Clear h = h
changed_range r Deselect h = h
changed_range r Enable h = h
changed_range r Disable h = h
changed_range r Local h = h
changed_range r Unassign h = omega arith
changed_range r Nothing h = h

changed_phase : (r : Role) (o : Order) → r.phase ≤ 1 → (changed_role r o).phase ≤ 1
unfolding changed_role
changed_phase r Unlisten h = h
changed_phase r Listen h = omega arith
changed_phase r Untalk h = omega arith
changed_phase r Talk h = omega arith
changed_phase r Clear h = h
changed_phase r Deselect h = omega arith
changed_phase r Enable h = h
changed_phase r Disable h = h
changed_phase r Local h = h
changed_phase r Unassign h = h
changed_phase r Nothing h = h

changed_apart : (r : Role) (o : Order) → Apart r → Apart (changed_role r o)
unfolding changed_role
changed_apart r Unlisten a = λ l. cc
changed_apart r Listen a = λ l. cc
changed_apart r Untalk a = λ l. cc
changed_apart r Talk a = λ l. cc
changed_apart r Clear a = a
changed_apart r Deselect a = λ l. cc
changed_apart r Enable a = a
changed_apart r Disable a = a
changed_apart r Local a = a
changed_apart r Unassign a = a
changed_apart r Nothing a = a

-- no order leaves an active talker, or a talker that is a listener too, or a field out of its range
pub obeyed_phase : (r : Role) (o : Order) → (obeyed_role r o).phase ≤ 1
unfolding obeyed_role
obeyed_phase r o = changed_phase (merely_addressed r) o (merely_phase r)

pub obeyed_apart : (r : Role) (o : Order) → Apart r → Apart (obeyed_role r o)
unfolding obeyed_role
obeyed_apart r o a = changed_apart (merely_addressed r) o (merely_apart r a)

pub obeyed_range : (r : Role) (o : Order) → r.address ≤ 31 → (obeyed_role r o).address ≤ 31
unfolding obeyed_role merely_addressed
obeyed_range r o h = changed_range (merely_addressed r) o h

pub obeyed_fit : (r : Role) (o : Order) → Fit r → Fit (obeyed_role r o)
obeyed_fit r o f = record { range = obeyed_range r o f.range; phase = omega (arith, obeyed_phase r o); apart = obeyed_apart r o f.apart }

-- the same of every command byte, for every home address
module _ (home : ℕ) (r : Role) (d : ℕ) where
  pub command_phase : (after_command home r d).phase ≤ 1
  command_phase = obeyed_phase r (order_of home r d)

  pub command_apart : Apart r → Apart (after_command home r d)
  command_apart a = obeyed_apart r (order_of home r d) a

  pub command_fit : Fit r → Fit (after_command home r d)
  command_fit f = obeyed_fit r (order_of home r d) f

-- 63 ends listening and 95 ends talking, whatever the address
pub ends_listening : (home : ℕ) (r : Role) → (after_command home r 63).listener ≡ false
unfolding obeyed_role changed_role
ends_listening home r = rw (order_63 home r)

pub ends_talking : (home : ℕ) (r : Role) → (after_command home r 95).phase ≡ 0
unfolding obeyed_role changed_role
ends_talking home r = rw (order_95 home r)

-- a command that asks nothing changes no more, and a device clear changes no more of the role
pub clear_no_more : (r : Role) → obeyed_role r Clear ≡ merely_addressed r
unfolding obeyed_role changed_role
clear_no_more r = refl

pub nothing_no_more : (r : Role) → obeyed_role r Nothing ≡ merely_addressed r
unfolding obeyed_role changed_role
nothing_no_more r = refl
