-- Status byte: the conditions of a state, its requests, and what shows.
use Rattle.std.specs.Prelude.{ℕ, Bool, false, cond, ◌&&◌, ◌||◌, eqb, ltb}
use Rattle.frame.specs.Frame.{with_service}
use Rattle.registers.specs.declared.Registers.{Registers}
use Rattle.registers.specs.Meanings.{requests_show, overrun_enabled, break_enabled, key_enabled}
use Rattle.registers.specs.Meanings.{transmit_empty_enabled, transmit_not_full_enabled, receive_not_empty_enabled, receive_full_enabled}
use Rattle.status.specs.declared.Conditions.{Conditions}
use Rattle.status.specs.Status.{status_byte, both, begins, acknowledged}
use Rattle.store.specs.Ring.{full}
use Rattle.state.specs.declared.State.{State}
use Rattle.state.specs.Outcome.{Outcome}
use Rattle.state.specs.State.{no_events, notes_with, with_break, with_key, noted}

-- Status byte, bits: the seven conditions as they are in this state
unfoldable pub conditions : State → Conditions
conditions s =
    record {
      txempty = eqb s.tx.len 0;
      txnotfull = ltb s.tx.len s.tx.cap;
      rxnotempty = ltb 0 s.rx.len;
      rxfull = full s.rx;
      brk = s.notes.seen.brk;
      overrun = s.notes.seen.overrun;
      key = s.notes.seen.key;
    }

-- which of them the registers enable
unfoldable pub enabled_by : Registers → Conditions
enabled_by g =
    record {
      txempty = transmit_empty_enabled g;
      txnotfull = transmit_not_full_enabled g;
      rxnotempty = receive_not_empty_enabled g;
      rxfull = receive_full_enabled g;
      brk = break_enabled g;
      overrun = overrun_enabled g;
      key = key_enabled g;
    }

-- Status byte, requests: which conditions are "enabled-and-holding"
unfoldable pub asking : State → Conditions
asking s = both (enabled_by s.regs) (conditions s)

-- the same state, with a request or without
abbrev pub with_request : State → Bool → State
with_request s r = notes_with s s.notes.seen s.notes.again r

-- Status byte, requests: the state after a call, with a request if one began by it
unfoldable pub settled : State → State → State
settled before after = with_request after (after.notes.request || begins (asking before) (asking after))

-- the same of what a call gives
abbrev pub settled_outcome : State → Outcome → Outcome
settled_outcome s o = record { state = settled s o.state; answer = o.answer }

-- Status byte, requests: one shows while R00 bit 3 lets it
unfoldable pub shows : State → Bool
shows s = requests_show s.regs && s.notes.request

-- Frames, last: the service bit is set where a request shows, and kept where none does
unfoldable pub serviced : State → ℕ → ℕ
serviced s f = cond (shows s) (with_service f) f

-- Status byte, what it shows: the conditions of the state before the call
unfoldable pub status_of : State → ℕ
status_of s = status_byte (conditions s) (shows s)

-- Status byte, requests: sending status ends one; and the notes that a thing happened again begin anew
unfoldable pub after_status : State → State
after_status s = notes_with s s.notes.seen no_events false

-- Status byte, last: the status byte d came back unchanged
unfoldable pub after_status_back : State → ℕ → State
after_status_back s d = notes_with s (acknowledged s.notes.seen s.notes.again d) s.notes.again s.notes.request

-- Status byte, break and key: each sets its bit and the note that it happened again
unfoldable pub break_state : State → State
break_state s = noted s with_break

unfoldable pub key_state : State → State
key_state s = noted s with_key
