-- Not ready for data: when a frame is held back, and that it goes on when 5,66 has come round.
use Rattle.std.specs.Prelude.{ℕ, ◌+◌, ◌≡◌, Bool, true, false, cond, ◌&&◌, ◌||◌, not, eqb, length}
use Rattle.machine.specs.Course.{Without}
use Rattle.machine.specs.Machine.{of_calls, of_between}
use Rattle.frame.specs.Frame.{control_of, data_of, made, is_data, with_service}
use Rattle.answers.specs.Answers.{Said, frame}
use Rattle.mailbox.specs.Calls.{loop_frame, on, Call, World}
use Rattle.maillaws.specs.Mailboxes.{Law, Saw}
use Rattle.maillaws.specs.Sights.{to_bus, to_loop, store_of, news_of, waits, taken, on_frame, loop_listens, restarts}

-- the frame is answered as control and data
abbrev pub as_frame : ℕ → Said
as_frame f = frame (control_of f) (data_of f)

-- with the service bit where the loop's side requests service
abbrev pub requested : World → ℕ → ℕ
requested w f = cond (news_of to_loop w).request (with_service f) f

-- Enable listener not ready: the byte leaves one place free, and no frame is held back already
abbrev pub holds_now : World → Bool
holds_now w = (w.state.hold.enabled && not w.state.hold.held) && eqb (length (waits to_bus w) + 2) (length (store_of to_bus w))

-- a data frame to a listener is held back then, and 5,66 goes out in its place; else it passes
pub record HoldRight (f : ℕ) (s : Saw) : Type 0 where
  pub held : holds_now s.before ≡ true → s.answer ≡ frame 5 66
  pub passes : holds_now s.before ≡ false → s.answer ≡ as_frame (requested s.before f)

abbrev pub HoldsBack : Law
HoldsBack =
    of_calls
    (λ s. (f : ℕ) → s.call ≡ on (loop_frame f) → taken s.answer ≡ true → is_data f ≡ true → loop_listens s.before ≡ true → HoldRight f s)

-- what ends the holding: a command, 5,66 itself, a create and a reset
unfoldable pub ends_hold : Call → World → Said → Bool
ends_hold c w a = on_frame (λ f. taken a && (eqb (control_of f) 4 || eqb f (made 5 66))) (restarts c a) c

-- the frame that was held back goes on when 5,66 has come round
abbrev pub Released : Law
Released =
    of_between
    (λ s ss t. (f : ℕ) → s.call ≡ on (loop_frame f) → is_data f ≡ true → loop_listens s.before ≡ true → s.answer ≡ frame 5 66 →
    Without ends_hold ss → t.call ≡ on (loop_frame (made 5 66)) → taken t.answer ≡ true → t.answer ≡ as_frame (requested t.before f))
