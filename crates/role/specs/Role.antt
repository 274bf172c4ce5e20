-- The parts of a role on the loop: the address, the talker phase, and whether it is listener.
use Rattle.std.specs.Prelude.{ℕ, Bool, false, eqb, leb}
use Rattle.role.specs.declared.Role.{Role}

-- the address field of a device that has no address
abbrev pub unassigned : ℕ
unassigned = 31

-- the talker phases: no talker, addressed, and active with data or with the status byte
abbrev pub idle : ℕ
idle = 0

abbrev pub addressed : ℕ
addressed = 1

abbrev pub active_data : ℕ
active_data = 2

abbrev pub active_status : ℕ
active_status = 3

abbrev pub is_unassigned : Role → Bool
is_unassigned r = eqb r.address unassigned

-- talker in any phase
abbrev pub is_talker : Role → Bool
is_talker r = leb addressed r.phase

-- a talker that has a frame under way
abbrev pub is_active : Role → Bool
is_active r = leb active_data r.phase

-- Frames, start: no address yet, and neither talker nor listener
abbrev pub start_role : Role
start_role = record { address = unassigned; phase = idle; listener = false }

-- a role with one part changed
abbrev pub with_address : Role → ℕ → Role
with_address r a = record { address = a; phase = r.phase; listener = r.listener }

abbrev pub with_phase : Role → ℕ → Role
with_phase r t = record { address = r.address; phase = t; listener = r.listener }

abbrev pub with_listener : Role → Bool → Role
with_listener r l = record { address = r.address; phase = r.phase; listener = l }
