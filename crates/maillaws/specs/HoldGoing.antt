-- How not ready goes, over every call: whether a listener says so, and the frame that it holds back.
use Rattle.std.specs.Prelude.{ℕ, ◌≡◌, Bool, true, false, cond, ◌&&◌, eqb}
use Rattle.machine.specs.Machine.{of_calls}
use Rattle.frame.specs.Frame.{control_of, data_of, made, is_data}
use Rattle.mailstate.specs.declared.Hold.{Hold}
use Rattle.mailbox.specs.Calls.{World}
use Rattle.maillaws.specs.Mailboxes.{Law}
use Rattle.maillaws.specs.Sights.{taken, on_frame, loop_listens, restarts}
use Rattle.maillaws.specs.NotReady.{holds_now}

-- Enable listener not ready, to a listener; any other command disables it, and every command forgets the frame that is held back
abbrev pub hold_by : World → ℕ → Hold
hold_by w d = record { enabled = eqb d 15 && loop_listens w; held = false; frame = 0 }

-- Not ready for data, come round, with a frame held back
abbrev pub releases_by : World → ℕ → Bool
releases_by w f = eqb f (made 5 66) && w.state.hold.held

-- after a frame that is taken: a listener holds a data frame back, and what is held goes on when 5,66 has come round
abbrev pub held_by : World → ℕ → Hold
held_by w f =
    cond (is_data f) (cond (loop_listens w && holds_now w) (record { enabled = true; held = true; frame = f }) w.state.hold)
    (cond (eqb (control_of f) 4) (hold_by w (data_of f))
    (cond (releases_by w f) (record { enabled = w.state.hold.enabled; held = false; frame = 0 })
    w.state.hold))

-- no other call changes it, but a create or reset, which begin it
abbrev pub HoldGoes : Law
HoldGoes =
    of_calls
    (λ s. restarts s.call s.answer ≡ false →
    s.after.state.hold ≡
    on_frame (λ f. cond (taken s.answer) (held_by s.before f) s.before.state.hold) s.before.state.hold s.call)
