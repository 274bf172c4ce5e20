-- The service bit of every frame out.
use Rattle.std.specs.Prelude.{ℕ, ◌%◌, ◌≡◌, Bool, true, false, ◌&&◌, ◌||◌, eqb, ltb}
use Rattle.machine.specs.Machine.{of_calls}
use Rattle.frame.specs.Frame.{control_of, has_service}
use Rattle.answers.specs.Answers.{frame}
use Rattle.bridge.specs.Calls.{on, loop_frame, World}
use Rattle.laws.specs.Observers.{passes_on}
use Rattle.laws.specs.StatusTold.{shows}
use Rattle.laws.specs.Bridges.{Law}

-- by its control bits, a data or an identify frame
abbrev pub carries_service : ℕ → Bool
carries_service k = ltb k 4 || ltb 5 k

-- the frame k,d answers the frame f
pub record ServiceRight (w : World) (f k d : ℕ) : Type 0 where
  -- Frames, last: a data frame sent or passed and an identify frame get the service bit if a request showed before the call, and otherwise
  -- keep theirs; a frame that we send has none of its own
  pub bit : carries_service k ≡ true → eqb (k % 2) 1 ≡ (shows w || (passes_on w.state f && has_service f))
  -- any other answer but a command is a data frame, or a ready frame, which has no service bit: so 5,64 and 5,65
  pub other : passes_on w.state f ≡ false → (control_of f ≡ 4 → ⊥) → (ltb k 4 || eqb k 5) ≡ true

-- of every frame taken, in every world
abbrev pub ServiceBit : Law
ServiceBit = of_calls (λ s. (f k d : ℕ) → s.call ≡ on (loop_frame f) → s.answer ≡ frame k d → ServiceRight s.before f k d)
