-- The reading rule, a send from the receive store; the status byte; and how sending ends.
use Rattle.std.specs.Prelude.{ℕ, List}
use Rattle.frame.specs.Frame.{made}
use Rattle.registers.specs.declared.Registers.{Registers}
use Rattle.registers.specs.Meanings.{end_detected}
use Rattle.reading.specs.declared.Rule.{Rule}
use Rattle.std.specs.Prelude.{Option, Some, None}
use Rattle.sending.specs.Sending.{given_of, send_held, sent_ring}
use Rattle.role.specs.Role.{active_data, active_status}
use Rattle.talker.specs.UnderWay.{talking, ended_talker}
use Rattle.state.specs.declared.State.{State}
use Rattle.state.specs.Outcome.{Outcome}
use Rattle.answers.specs.declared.Answer.TheVariants.{Frame}
use Rattle.state.specs.State.{with_talker, with_rx}
use Rattle.state.specs.Counts.{sent_more}
use Rattle.line.specs.HoldingOff.{resumed}
use Rattle.state.specs.Conditions.{serviced, status_of, after_status}

-- 5,64 or 5,65, which ends our sending
unfoldable pub ended : State → ℕ → Outcome
ended s d = record { state = with_talker s (ended_talker s.talker); answer = Frame (made 5 d) }

-- R10 bit 3, C00 and C01
unfoldable pub rule_of : Registers → Rule
rule_of g = record { on = end_detected g; c00 = g.c00; c01 = g.c01 }

-- what a send leaves in the receive store; a send that leaves 2m free or more ends holding off
unfoldable pub removed_state : State → List ℕ → State
removed_state s rx = resumed (with_rx s (sent_ring (rule_of s.regs) rx s.rx))

-- Frames, ready 96: what is given goes out, or sending ends; from the state before the call and the one after the removal
unfoldable pub send_state : State → State → Option ℕ → Outcome
send_state before after None = ended after 64
send_state before after (Some f) = record { state = sent_more (with_talker after (talking after.talker active_data f)); answer = Frame (serviced before f) }

unfoldable pub send_from : State → List ℕ → Outcome
send_from s rx = send_state s (removed_state s rx) (given_of (send_held (rule_of s.regs) rx s.rx))

-- Frames, ready 97: the byte of the moment goes out, and from here on it is told
unfoldable pub send_status : State → Outcome
send_status s =
    record {
      state = with_talker (after_status s) (talking s.talker active_status (made 0 (status_of s)));
      answer = Frame (serviced s (made 0 (status_of s)));
    }
