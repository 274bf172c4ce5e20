-- Mailboxes that pass another frame on than is due, or send where they should pass.
use Rattle.std.specs.Prelude.{ℕ, ◌+◌, ◌%◌, Bool, false, cond, ◌&&◌, ◌||◌, not, eqb}
use Rattle.frame.specs.Frame.{control_of, data_of, made}
use Rattle.role.specs.Role.{with_listener, with_phase}
use Rattle.answers.specs.Answers.{Said, frame, is_refusal}
use Rattle.mailstate.specs.State.{with_talker, with_source}
use Rattle.mailbox.specs.Calls.{Call, World, Did, step}
use Rattle.maillaws.specs.Sights.{on_frame}
use Rattle.maillaws.specs.LoopRole.{assigns}
use Rattle.maillaws.specs.FramesOn.{is_others, goes_on_with_id}
use Rattle.mailwrong.specs.Spoiling.{instead, instead_at, answering, having, with_loop_role}

-- another answer to the frames that the test finds
abbrev answers_frames : (World → ℕ → Bool) → (ℕ → Said) → Call → World → Did
answers_frames test other = answering (λ c w a. on_frame (λ f. cond (test w f) (other f) a) a c)

-- passes the data of others on with another byte
abbrev pub spoils_others : Call → World → Did
spoils_others = answers_frames is_others (λ f. frame (control_of f) ((data_of f + 1) % 256))

-- passes every command on as 4,0
abbrev pub spoils_commands : Call → World → Did
spoils_commands = answers_frames (λ w f. eqb (control_of f) 4) (λ f. frame 4 0)

-- takes the address that is offered and offers the same to the next device
abbrev pub offers_taken : Call → World → Did
offers_taken = answers_frames (λ w f. eqb (control_of f) 5 && assigns w.state.talker.role (data_of f)) (λ f. frame 5 (data_of f))

-- sends data though another device is the talker
abbrev pub sends_unasked : Call → World → Did
sends_unasked =
    instead (λ c w. on_frame (λ f. eqb f (made 5 96) && eqb w.state.talker.role.phase 0) false c)
    (λ c w.
    let other = step c (having (λ s. with_loop_role (with_phase (with_listener s.talker.role false) 1) s) w) in
    record { said = other.said; world = having (λ s. with_talker s w.state.talker) other.world })

-- passes send device ID and send accessory ID on
abbrev pub has_no_id : Call → World → Did
has_no_id =
    instead_at (λ c w a. on_frame (λ f. (eqb f (made 5 98) || eqb f (made 5 99)) && not (is_refusal a)) false c)
    (λ c w. on_frame (λ f. record { said = frame 5 (data_of f); world = w }) (step c w) c)

-- sends a line feed behind every byte of an ID, for ever
abbrev pub feeds_for_ever : Call → World → Did
feeds_for_ever = instead (λ c w. on_frame (goes_on_with_id w) false c) (λ c w. step c (having (λ s. with_source s 9) w))
