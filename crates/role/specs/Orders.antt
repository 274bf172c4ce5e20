-- Which order a command's data byte is to a device: the left sides of the paper's list of commands.
use Rattle.std.specs.Prelude.{ℕ, ◌-◌, ◌%◌, Bool, true, false, cond, ◌&&◌, ◌||◌, not, eqb}
use Rattle.role.specs.declared.Role.{Role}
use Rattle.role.specs.declared.Order.{Order}
use Rattle.role.specs.declared.Order.TheVariants.{Unlisten, Listen, Untalk, Talk, Clear, Deselect, Enable, Disable, Local, Unassign, Nothing}
use Rattle.role.specs.Role.{is_unassigned}

-- Frames, commands, our address a: as assigned, and the home address of the device while unassigned
unfoldable pub own_address : ℕ → Role → ℕ
own_address home r = cond (is_unassigned r) home r.address

-- Frames, the n of 32+n, 64+n and 128+n: from 0 to 31
abbrev pub number_of : ℕ → ℕ
number_of d = d % 32

-- and what n is added to
abbrev pub base_of : ℕ → ℕ
base_of d = d - number_of d

-- Frames, commands, 32+n: 31 is tested first, so that it is nobody's address; then ours; any other is of no concern
unfoldable pub listen_order : ℕ → ℕ → Order
listen_order a n = cond (eqb n 31) Unlisten (cond (eqb n a) Listen Nothing)

-- Frames, commands, 64+n: our address, unless it is 31, and any other, which is somebody else's turn
unfoldable pub talk_order : ℕ → ℕ → Order
talk_order a n = cond (eqb n a && not (eqb n 31)) Talk Untalk

-- Frames, commands, 20 and 4, a device clear: 20 is to all devices, 4 to listeners
abbrev pub is_device_clear : Bool → ℕ → Bool
is_device_clear listener d = eqb d 20 || (eqb d 4 && listener)

-- the commands that have no address
unfoldable pub other_order : Bool → ℕ → Order
other_order listener d =
    cond (is_device_clear listener d) Clear
    -- Frames, commands, 144: to all
    (cond (eqb d 144) Deselect
    -- Frames, commands, 146: to all
    (cond (eqb d 146) Enable
    -- Frames, commands, 147: to all
    (cond (eqb d 147) Disable
    -- Frames, commands, 1: to listeners
    (cond (eqb d 1 && listener) Local
    -- Frames, commands, 154: to all
    (cond (eqb d 154) Unassign
    -- Frames, commands, all others
    Nothing)))))

-- the order in any command
unfoldable pub order_of : ℕ → Role → ℕ → Order
order_of home r d =
    cond (eqb (base_of d) 32) (listen_order (own_address home r) (number_of d))
    (cond (eqb (base_of d) 64) (talk_order (own_address home r) (number_of d))
    (other_order r.listener d))

-- the order is a device clear
abbrev pub is_clear : Order → Bool
is_clear Clear = true
is_clear Unlisten = false
is_clear Listen = false
is_clear Untalk = false
is_clear Talk = false
is_clear Deselect = false
is_clear Enable = false
is_clear Disable = false
is_clear Local = false
is_clear Unassign = false
is_clear Nothing = false
