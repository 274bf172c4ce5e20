-- Laws of the orders: 31 is nobody's address.
use Rattle.std.specs.Prelude.{ℕ, ◌≡◌}
use Rattle.role.specs.declared.Role.{Role}
use Rattle.role.specs.declared.Order.{Order}
use Rattle.role.specs.declared.Order.TheVariants.{Unlisten, Listen, Untalk, Talk, Clear, Deselect, Enable, Disable, Local, Unassign, Nothing}
use Rattle.role.specs.Orders.{order_of}

-- 63 ends listening and 95 ends talking, whatever the address
abbrev pub Order63 : Type 0
Order63 = (home : ℕ) (r : Role) → order_of home r 63 ≡ Unlisten

abbrev pub Order95 : Type 0
Order95 = (home : ℕ) (r : Role) → order_of home r 95 ≡ Untalk

-- an order that makes nobody talker or listener
abbrev pub Silent : Order → Type 0
Silent Unlisten = Unit {0}
Silent Listen = ⊥
Silent Untalk = Unit {0}
Silent Talk = ⊥
Silent Clear = Unit {0}
Silent Deselect = Unit {0}
Silent Enable = Unit {0}
Silent Disable = Unit {0}
Silent Local = Unit {0}
Silent Unassign = Unit {0}
Silent Nothing = Unit {0}

-- Slips we have seen, the fourth, cannot happen: unassigned and with home address 31, no command makes a talker or
-- listener
abbrev pub UnassignedSilent : Type 0
UnassignedSilent = (r : Role) (d : ℕ) → r.address ≡ 31 → Silent (order_of 31 r d)
