-- Service requests and parallel polls: the lines of the bus, the identify frame of the loop, and how the loop's response to polls goes.
use Rattle.std.specs.Prelude.{ℕ, ◌+◌, ◌/◌, ◌%◌, ◌^◌, ◌≡◌, Bool, true, false, cond, ◌&&◌, ◌||◌, not, eqb, leb, ltb}
use Rattle.machine.specs.Machine.{of_calls}
use Rattle.frame.specs.Frame.{control_of, data_of}
use Rattle.polls.specs.declared.Response.{Response}
use Rattle.answers.specs.Answers.{frame, lines}
use Rattle.mailbox.specs.Calls.{loop_frame, bus_lines, on, World}
use Rattle.maillaws.specs.Mailboxes.{Law}
use Rattle.maillaws.specs.Sights.{to_bus, to_loop, news_of, taken, on_frame, loop_listens, restarts}

-- ---- the bus

-- SRQ, which is 256, while service is requested; and then the line's bit, where a parallel poll is answered
abbrev pub lines_of : World → ℕ
lines_of w = cond (news_of to_bus w).request (cond w.state.bus.polled (2 ^ w.state.bus.line + 256) 256) 0

abbrev pub LinesTold : Law
LinesTold = of_calls (λ s. s.call ≡ on bus_lines → taken s.answer ≡ true → s.answer ≡ lines (lines_of s.before))

-- ---- the loop

-- a poll is answered while the response is on and service is requested, or is not, as its sense is
abbrev pub answers_poll : Response → Bool → Bool
answers_poll p requested = p.on && cond p.sense requested (not requested)

-- the byte with the bit n on, and every other bit as it was
abbrev pub with_bit : ℕ → ℕ → ℕ
with_bit n d = cond (eqb (d / 2 ^ n % 2) 1) d (d + 2 ^ n)

-- Identify: 6 and 7, and 7 where service is requested; the bit of our line is joined to the byte while the poll is answered, and no bit is
-- taken away
abbrev pub IdentifyTold : Law
IdentifyTold =
    of_calls
    (λ s. (f : ℕ) → s.call ≡ on (loop_frame f) → taken s.answer ≡ true → leb 6 (control_of f) ≡ true →
    s.answer ≡ frame (cond (news_of to_loop s.before).request 7 (control_of f))
    (cond (answers_poll s.before.state.response (news_of to_loop s.before).request) (with_bit s.before.state.response.line (data_of f)) (data_of f)))

-- Parallel poll unconfigure, and disable to a listener
abbrev pub ends_response : World → ℕ → Bool
ends_response w d = eqb d 21 || (eqb d 5 && loop_listens w)

-- Parallel poll enable to a listener: 128 to 135 answer while service is not requested, 136 to 143 while it is
abbrev pub sets_response : World → ℕ → Bool
sets_response w d = (leb 128 d && ltb d 144) && loop_listens w

-- the response after a command
abbrev pub response_by : World → ℕ → Response
response_by w d =
    cond (ends_response w d) (record { on = false; line = 0; sense = false })
    (cond (sets_response w d) (record { on = true; line = d % 8; sense = leb 136 d })
    w.state.response)

-- the response after a frame that is taken
abbrev pub responded_by : World → ℕ → Response
responded_by w f = cond (eqb (control_of f) 4) (response_by w (data_of f)) w.state.response

-- no other call changes it, but a create or reset, which begin it
abbrev pub ResponseGoes : Law
ResponseGoes =
    of_calls
    (λ s. restarts s.call s.answer ≡ false →
    s.after.state.response ≡
    on_frame (λ f. cond (taken s.answer) (responded_by s.before f) s.before.state.response) s.before.state.response s.call)
