-- A frame is the number of its parts, on plain values. Assumes nothing.
use Prim.Native.Nat.{ℕ}
use native.Mathlib.Omega.{arith}
use mathlib.Core.Path.{◌≡◌}
use Rattle.frame.specs.Frame.{control_of, data_of, made}

pub whole_frame : (f : ℕ) → made (control_of f) (data_of f) ≡ f
whole_frame f = omega arith
