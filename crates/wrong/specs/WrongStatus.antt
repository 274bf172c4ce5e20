-- Bridges whose status byte or service request is wrong.
use Rattle.std.specs.Prelude.{ℕ, true, false, cond, ◌&&◌, ◌||◌, not}
use Rattle.frame.specs.Frame.{made}
use Rattle.registers.specs.declared.Registers.{Registers}
use Rattle.status.specs.declared.Conditions.{Conditions}
use Rattle.status.specs.Status.{status_byte, both, begins}
use Rattle.state.specs.declared.State.{State}
use Rattle.answers.specs.Answers.{done}
use Rattle.state.specs.Conditions.{conditions, enabled_by, serviced, status_of, with_request}
use Rattle.state.specs.Conditions as state
use Rattle.bridge.specs.Calls.{Call, World, world, Did, step}
use Rattle.laws.specs.Observers.{any, taken, on_frame, asks_status, status_sent, clears, empties}
use Rattle.laws.specs.Passing.{as_frame}
use Rattle.laws.specs.Worlds.{requested}
use Rattle.wrong.specs.Changing.{instead, afterwards, with_under}

-- receive not empty and receive full exchanged
abbrev exchanged : Conditions → Conditions
exchanged x =
    record {
      txempty = x.txempty;
      txnotfull = x.txnotfull;
      rxnotempty = x.rxfull;
      rxfull = x.rxnotempty;
      brk = x.brk;
      overrun = x.overrun;
      key = x.key;
    }

-- transmit not full holds
abbrev roomy : Conditions → Conditions
roomy x =
    record {
      txempty = x.txempty;
      txnotfull = true;
      rxnotempty = x.rxnotempty;
      rxfull = x.rxfull;
      brk = x.brk;
      overrun = x.overrun;
      key = x.key;
    }

-- ---- the status byte

-- sends this status byte, and records it as the frame under way
abbrev sends_status : ℕ → State → World → Did
sends_status n before v =
    record {
      said = as_frame (serviced before (made 0 n));
      room = 0;
      world = world (with_under v.state (record { frame = made 0 n; finishing = false })) v.rx v.tx;
    }

-- ours with another status byte, by the states before and after the call
abbrev showing_status : (State → State → ℕ) → Call → World → Did
showing_status status =
    instead (λ c w. on_frame (asks_status w.state) false c && taken (step c w).said)
    (λ c w. sends_status (status w.state (step c w).world.state) w.state (step c w).world)

-- shows receive not empty in bit 3 and receive full in bit 2
abbrev pub shows_exchanged : Call → World → Did
shows_exchanged = showing_status (λ before after. status_byte (exchanged (conditions before)) (state.shows before))

-- shows in bit 1 that the transmit store is not full, whatever it holds
abbrev pub shows_room : Call → World → Did
shows_room = showing_status (λ before after. status_byte (roomy (conditions before)) (state.shows before))

-- shows what holds after the call: the request that this very byte ends is not in it
abbrev pub shows_after : Call → World → Did
shows_after = showing_status (λ before after. status_of after)

-- shows a request in bit 6 though R00 bit 3 is off
abbrev pub shows_any_request : Call → World → Did
shows_any_request = showing_status (λ before after. status_byte (conditions before) before.notes.request)

-- ---- requests

-- ours, where other registers enable a condition
abbrev requesting : (Registers → Conditions) → Call → World → Did
requesting enables =
    afterwards
    (λ c w s. cond (empties c w done) s
    (with_request s
    ((requested w && not (any (status_sent c w (step c w).said)))
    || begins (both (enables w.state.regs) (conditions w.state)) (both (enables s.regs) (conditions s)))))

-- R01 bit 2 enables receive full, and bit 3 receive not empty
abbrev pub enables_exchanged : Call → World → Did
enables_exchanged = requesting (λ g. exchanged (enabled_by g))

-- begins a request whether the condition is enabled or not
abbrev pub enables_all : Call → World → Did
enables_all = requesting (λ g. record { txempty = true; txnotfull = true; rxnotempty = true; rxfull = true; brk = true; overrun = true; key = true })

-- a request outlives a device clear
abbrev pub requests_on : Call → World → Did
requests_on = afterwards (λ c w s. cond (clears c w done) (with_request s (requested w)) s)

-- a request does not end when status is sent
abbrev pub requests_forever : Call → World → Did
requests_forever = afterwards (λ c w s. cond (on_frame (asks_status w.state) false c) (with_request s (requested w)) s)
