-- The frames made of bytes. Assumes nothing.
use Prim.Native.Nat.{ℕ, ◌<◌}
use native.Mathlib.Omega.{arith}
use mathlib.Core.Path.{◌≡◌}
use mathlib.Core.Bool.{true}
use mathlib.Core.List.{List}
use borrow.Author.Tests.{lt-ltb}
use Rattle.frame.specs.Frame.{control_of, made, is_data, stripped}
use Rattle.reading.specs.declared.Rule.{Rule}
use Rattle.reading.specs.Reading.{one, send}
use Rattle.reading.specs.Received.{Received, received_in}
use Rattle.reading.specs.Steps.{cut}
use Rattle.reading.proofs.Bytes.{sent_frame}

-- a data frame with its service bit off
pub record Plain (f : ℕ) : Type 0 where
  pub isdata : is_data f ≡ true
  pub bare : stripped f ≡ f

pub plain_data : (b : ℕ) → b < 256 → Plain (made 0 b)
unfolding stripped
plain_data b h = record { isdata = lt-ltb (control_of (made 0 b)) 4 (omega arith); bare = omega arith }

plain_end : (b : ℕ) → b < 256 → Plain (made 2 b)
unfolding stripped
plain_end b h = record { isdata = lt-ltb (control_of (made 2 b)) 4 (omega arith); bare = omega arith }

-- a frame that is sent from the receive store is a data frame with its service bit off
pub sent_plain : (rule : Rule) (cells : List ℕ) (f : ℕ) (r : List Received) → send (cut rule) (received_in cells) ≡ one f r → Plain f
sent_plain rule = sent_frame rule Plain plain_data plain_end
