-- Mailboxes that answer parallel polls wrongly, or show a request wrongly.
use Rattle.std.specs.Prelude.{ℕ, ◌+◌, ◌-◌, ◌%◌, Bool, cond, ◌&&◌, eqb, leb, ltb}
use Rattle.frame.specs.Frame.{control_of, data_of}
use Rattle.polls.specs.Polls.{no_response, loop_response}
use Rattle.answers.specs.Answers.{frame, lines}
use Rattle.mailstate.specs.declared.State.{State}
use Rattle.mailstate.specs.State.{with_response}
use Rattle.mailbox.specs.Calls.{Call, World, Did, step}
use Rattle.maillaws.specs.Sights.{of_frame_said, on_frame}
use Rattle.mailwrong.specs.Spoiling.{after_sight, leaving, answering, having, on_bus, is_command, of_lines}

-- ---- what is shown

-- shows no service request: neither by SRQ nor in an identify frame, from which it takes the service bit away
abbrev pub hides_request : Call → World → Did
hides_request = answering (λ c w a. of_frame_said (λ k d. cond (leb 6 k) (frame 6 d) a) (of_lines (λ n. lines (n % 256)) a) a)

abbrev next_line : State → State
next_line s =
    on_bus (λ b. record { role = b.role; serial = b.serial; read = b.read; configuring = b.configuring; polled = b.polled; line = (b.line + 1) % 8 })
    (with_response s (record { on = s.response.on; line = (s.response.line + 1) % 8; sense = s.response.sense }))

-- answers every parallel poll on the line after the one that it was given
abbrev pub answers_next_line : Call → World → Did
answers_next_line c w = record { said = (step c (having next_line w)).said; world = (step c w).world }

abbrev identifies : ℕ → Bool
identifies f = leb 6 (control_of f)

-- takes the bits of others away from an identify frame
abbrev pub takes_bits : Call → World → Did
takes_bits = answering (λ c w a. on_frame (λ f. cond (identifies f) (of_frame_said (λ k d. frame k (d - data_of f)) a a) a) a c)

-- ---- the response to polls of the loop

-- answers no parallel poll of the loop: takes no notice of 128 to 143
abbrev pub ignores_poll : Call → World → Did
ignores_poll = leaving (λ c w v. having (λ s. with_response s no_response) v)

-- takes 128 to 143 for itself though it does not listen
abbrev pub enabled_for_others : Call → World → Did
enabled_for_others =
    leaving
    (λ c w v.
    on_frame (λ f. cond (eqb (control_of f) 4 && (leb 128 (data_of f) && ltb (data_of f) 144)) (having (λ s. with_response s (loop_response (data_of f))) v) v) v c)

-- goes on answering polls when they are unconfigured
abbrev pub answers_on : Call → World → Did
answers_on = after_sight (λ c w a. is_command 21 c) (λ before after. with_response after before.response)
