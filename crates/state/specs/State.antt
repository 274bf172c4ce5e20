-- A state with one of its parts changed.
use Rattle.std.specs.Prelude.{ℕ, Bool, true, false}
use Rattle.registers.specs.declared.Registers.{Registers}
use Rattle.role.specs.declared.remote.Remote.{Remote}
use Rattle.talker.specs.declared.Talker.{Talker}
use Rattle.store.specs.declared.Ring.{Ring}
use Rattle.status.specs.declared.Events.{Events}
use Rattle.state.specs.declared.State.{State}
use Rattle.state.specs.declared.Line.{Line}
use Rattle.state.specs.declared.Notes.{Notes}
use Rattle.state.specs.declared.Counts.{Counts}

-- the state of these parts
abbrev state_of : ℕ → Registers → Talker → Remote → Ring → Ring → Line → Notes → Counts → State
state_of margin regs talker remote rx tx line notes counts =
    record {
      margin = margin;
      regs = regs;
      talker = talker;
      remote = remote;
      rx = rx;
      tx = tx;
      line = line;
      notes = notes;
      counts = counts;
    }

abbrev pub with_registers : State → Registers → State
with_registers s x = state_of s.margin x s.talker s.remote s.rx s.tx s.line s.notes s.counts

abbrev pub with_talker : State → Talker → State
with_talker s x = state_of s.margin s.regs x s.remote s.rx s.tx s.line s.notes s.counts

abbrev pub with_remote : State → Remote → State
with_remote s x = state_of s.margin s.regs s.talker x s.rx s.tx s.line s.notes s.counts

abbrev pub with_rx : State → Ring → State
with_rx s x = state_of s.margin s.regs s.talker s.remote x s.tx s.line s.notes s.counts

abbrev pub with_tx : State → Ring → State
with_tx s x = state_of s.margin s.regs s.talker s.remote s.rx x s.line s.notes s.counts

abbrev pub with_line : State → Line → State
with_line s x = state_of s.margin s.regs s.talker s.remote s.rx s.tx x s.notes s.counts

abbrev pub with_notes : State → Notes → State
with_notes s x = state_of s.margin s.regs s.talker s.remote s.rx s.tx s.line x s.counts

abbrev pub with_counts : State → Counts → State
with_counts s x = state_of s.margin s.regs s.talker s.remote s.rx s.tx s.line s.notes x

-- nothing happened
abbrev pub no_events : Events
no_events = record { brk = false; overrun = false; key = false }

-- the same state with these notes
abbrev pub notes_with : State → Events → Events → Bool → State
notes_with s seen again request = with_notes s (record { seen = seen; again = again; request = request })

-- these events and a break, a lost byte or a press of the key
abbrev pub with_break : Events → Events
with_break e = record { brk = true; overrun = e.overrun; key = e.key }

abbrev pub with_overrun : Events → Events
with_overrun e = record { brk = e.brk; overrun = true; key = e.key }

abbrev pub with_key : Events → Events
with_key e = record { brk = e.brk; overrun = e.overrun; key = true }

-- an event joins what was seen and what happened again
abbrev pub noted : State → (Events → Events) → State
noted s event = notes_with s (event s.notes.seen) (event s.notes.again) s.notes.request
