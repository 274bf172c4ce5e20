-- The service bit of every frame out.
use Rattle.std.specs.Prelude.{ℕ, ◌%◌, ◌≡◌, Bool, true, cond, ◌&&◌, ◌||◌, not, eqb, ltb}
use Rattle.machine.specs.Machine.{of_calls}
use Rattle.frame.specs.Frame.{control_of, made, is_data, has_service}
use Rattle.answers.specs.Answers.{frame}
use Rattle.mailbox.specs.Calls.{on, loop_frame, World}
use Rattle.maillaws.specs.Mailboxes.{Law}
use Rattle.maillaws.specs.Sights.{to_loop, news_of, loop_active}
use Rattle.maillaws.specs.Requesting.{carries_service}

-- the frame that goes on for f had the service bit: f itself, where it is a data frame but no return, or an identify frame; and for not ready
-- for data the frame that is held back
abbrev pub had_service : World → ℕ → Bool
had_service w f =
    (((is_data f && not (loop_active w)) || ltb 5 (control_of f)) && has_service f)
    || ((eqb f (made 5 66) && w.state.hold.held) && has_service w.state.hold.frame)

-- by the controls of the frame taken and of the one out: a command goes on as one, an identify frame too, and what else there is, 5,64, 5,65
-- and 5,66 among it, is a data frame or a ready frame, which has no service bit
abbrev pub kind_out : ℕ → ℕ → Bool
kind_out taken out = cond (eqb taken 4) (eqb out 4) (cond (ltb 5 taken) (ltb 5 out) (ltb out 4 || eqb out 5))

-- a frame of the control k answers the frame f
pub record ServiceRight (w : World) (f k : ℕ) : Type 0 where
  -- a data or identify frame has the bit exactly if the loop's side requests service before the call, or if it goes on and had it; a data
  -- frame that we send has none of its own
  pub bit : carries_service k ≡ true → eqb (k % 2) 1 ≡ ((news_of to_loop w).request || had_service w f)
  -- and nothing becomes another kind of frame by it
  pub kind : kind_out (control_of f) k ≡ true

abbrev pub ServiceBit : Law
ServiceBit = of_calls (λ s. (f k d : ℕ) → s.call ≡ on (loop_frame f) → s.answer ≡ frame k d → ServiceRight s.before f k)
