-- Frames, first: a frame as a number of 11 bits.
use Rattle.std.specs.Prelude.{ℕ, ◌+◌, ◌*◌, ◌/◌, ◌%◌, Bool, eqb, ltb}

-- the three bits above are the control bits
abbrev pub control_of : ℕ → ℕ
control_of f = f / 256

-- the eight bits below are the data byte
abbrev pub data_of : ℕ → ℕ
data_of f = f % 256

-- the frame of a control and a data byte
abbrev pub made : ℕ → ℕ → ℕ
made c d = c * 256 + d

-- Frames, controls: 0 to 3 are data
abbrev pub is_data : ℕ → Bool
is_data f = ltb (control_of f) 4

-- Frames, controls: 2 and 3 are end bytes
abbrev pub is_end : ℕ → Bool
is_end f = eqb (control_of f / 2) 1

-- Frames, controls: the lowest control bit is the service bit
abbrev pub has_service : ℕ → Bool
has_service f = eqb (control_of f % 2) 1

-- the frame with its service bit off
unfoldable pub stripped : ℕ → ℕ
stripped f = made (control_of f / 2 * 2) (data_of f)

-- the frame with its service bit on
unfoldable pub with_service : ℕ → ℕ
with_service f = made (control_of f / 2 * 2 + 1) (data_of f)

-- Frames, returns: two frames are compared without their service bits
unfoldable pub same_apart : ℕ → ℕ → Bool
same_apart f g = eqb (stripped f) (stripped g)
