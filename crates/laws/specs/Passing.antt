-- What answers every frame that we do not answer by a send, the status byte or a return, by its kind.
use Rattle.std.specs.Prelude.{ℕ, ◌+◌, ◌≡◌, true, false, cond, ◌||◌}
use Rattle.machine.specs.Machine.{of_calls}
use Rattle.frame.specs.Frame.{control_of, data_of, with_service}
use Rattle.answers.specs.Answers.{Said, frame}
use Rattle.bridge.specs.Calls.{loop_frame, on}
use Rattle.laws.specs.Bridges.{Law, Saw}
use Rattle.laws.specs.Observers.{taken, passes_on, is_asked}
use Rattle.laws.specs.StatusTold.{shows}
use Rattle.laws.specs.Roles.{assigns}

-- the frame is answered as control and data
abbrev pub as_frame : ℕ → Said
as_frame f = frame (control_of f) (data_of f)

-- the frame f was taken
pub record PassedOn (f : ℕ) (s : Saw) : Type 0 where
  -- Frames, commands go on unchanged
  pub command : control_of f ≡ 4 → s.answer ≡ as_frame f
  -- Frames, last: a data frame that is no return and an identify frame pass, with the service bit if a request showed before the call
  pub passes : passes_on s.before.state f ≡ true → s.answer ≡ as_frame (cond (shows s.before) (with_service f) f)
  -- Frames, ready 128+n to an unassigned device is answered by 128+n+1
  pub address : control_of f ≡ 5 → assigns s.before.state.talker.role (data_of f) ≡ true → s.answer ≡ frame 5 (data_of f + 1)
  -- Frames, other ready frames pass
  pub ready : control_of f ≡ 5 → assigns s.before.state.talker.role (data_of f) ≡ false →
      (is_asked 96 s.before.state f || is_asked 97 s.before.state f) ≡ false → s.answer ≡ as_frame f

abbrev pub FramesPass : Law
FramesPass = of_calls (λ s. (f : ℕ) → s.call ≡ on (loop_frame f) → taken s.answer ≡ true → PassedOn f s)
