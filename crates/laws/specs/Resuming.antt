-- Sizes and refusals, first: two bytes that stay undecided do not keep the line held off.
use Rattle.std.specs.Prelude.{ℕ, ◌≡◌, true, false, []}
use Rattle.machine.specs.Course.{of}
use Rattle.machine.specs.Machine.{of_calls}
use Rattle.bridge.specs.Calls.{on, loop_frame}
use Rattle.laws.specs.Observers.{taken, is_send, sent}
use Rattle.laws.specs.Worlds.{holds_off}
use Rattle.laws.specs.Bridges.{Law}

-- a send that gives no data frame ends holding off: the meter is never silent for good
abbrev pub EmptySendResumes : Law
EmptySendResumes =
    of_calls
    (λ s. (f : ℕ) → s.call ≡ on (loop_frame f) → taken s.answer ≡ true → is_send s.before.state f ≡ true →
    of sent s ≡ [] → holds_off s.after ≡ false)
