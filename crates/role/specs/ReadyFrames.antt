-- What a ready frame asks of a device, and the address that it takes from one.
use Rattle.std.specs.Prelude.{ℕ, Bool, cond, ◌&&◌, eqb, leb}
use Rattle.role.specs.declared.Role.{Role}
use Rattle.role.specs.declared.Ready.{Ready}
use Rattle.role.specs.declared.Ready.TheVariants.{Pass, Address, Data, Status, Finish}
use Rattle.role.specs.Role.{addressed, active_data, is_unassigned, with_address}
use Rattle.role.specs.Orders.{number_of, base_of}

-- Frames, ready 128+n: 31 is no address, and an address is taken once
abbrev pub gives_address : Role → ℕ → Bool
gives_address r d = (eqb (base_of d) 128 && leb (number_of d) 30) && is_unassigned r

unfoldable pub ready_of : Role → ℕ → Ready
ready_of r d =
    cond (gives_address r d) Address
    -- Frames, ready 96: asks a talker for data that has nothing under way
    (cond (eqb d 96 && eqb r.phase addressed) Data
    -- Frames, ready 97: asks such a talker for its status
    (cond (eqb d 97 && eqb r.phase addressed) Status
    -- Frames, ready 66: only data can be cut short, a status byte is one frame
    (cond (eqb d 66 && eqb r.phase active_data) Finish
    -- Frames, other ready frames: not for us
    Pass)))

-- Frames, ready 128+n: the address is n
abbrev pub assigned_role : Role → ℕ → Role
assigned_role r d = with_address r (number_of d)

-- the address after any ready frame; the talker phase after one depends on what there is to send
unfoldable pub after_ready : Role → ℕ → Role
after_ready r d = cond (gives_address r d) (assigned_role r d) r
