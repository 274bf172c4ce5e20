-- How the side of the bus goes, over every call: its role, the serial poll and the parallel poll, by the message. Each part by itself.
use Rattle.std.specs.Prelude.{ℕ, ◌+◌, ◌%◌, ◌≡◌, Bool, true, false, cond, ◌&&◌, ◌||◌, not, eqb, leb, ltb}
use Rattle.machine.specs.Machine.{of_calls}
use Rattle.bus.specs.declared.Bus.{Bus}
use Rattle.answers.specs.Answers.{Said}
use Rattle.mailbox.specs.Calls.{bus_fetch, bus_clear, Call}
use Rattle.maillaws.specs.Mailboxes.{Law}
use Rattle.maillaws.specs.Sights.{any, taken, cell_said, on_bus_command, on_one, restarts}

-- LAD and TAD: our address
abbrev pub listens_to : Bus → ℕ → Bool
listens_to b c = eqb c (32 + b.role.address)

abbrev pub talks_to : Bus → ℕ → Bool
talks_to b c = eqb c (64 + b.role.address)

-- TAD with another address, and UNT
abbrev pub others_talk : Bus → ℕ → Bool
others_talk b c = (leb 64 c && ltb c 96) && not (talks_to b c)

-- PPE after PPC: 96 to 111
abbrev pub enables : Bus → ℕ → Bool
enables b c = b.configuring && (leb 96 c && ltb c 112)

-- PPU, PPD after PPC, and any command after PPC that is not secondary
abbrev pub disables : Bus → ℕ → Bool
disables b c = eqb c 21 || (b.configuring && not (enables b c))

-- the side after a command
unfoldable pub commanded_bus : Bus → ℕ → Bus
commanded_bus b c =
    record {
      role = record {
        address = b.role.address;
        phase = cond (listens_to b c || others_talk b c) 0 (cond (talks_to b c) 1 b.role.phase);
        listener = cond (eqb c 63 || talks_to b c) false (listens_to b c || b.role.listener);
      };
      serial = cond (eqb c 24) true (cond (eqb c 25) false b.serial);
      read = false;
      configuring = eqb c 5 && b.role.listener;
      polled = cond (disables b c) false (enables b c || b.polled);
      line = cond (disables b c) 0 (cond (enables b c) (c % 8) b.line);
    }

-- IFC: neither talker nor listener, no serial poll, and a PPC that waits ends the response
unfoldable pub cleared_bus : Bus → Bus
cleared_bus b =
    record {
      role = record { address = b.role.address; phase = 0; listener = false };
      serial = false;
      read = false;
      configuring = false;
      polled = cond b.configuring false b.polled;
      line = cond b.configuring 0 b.line;
    }

-- a fetch that gave a byte in a serial poll: the status byte is read
unfoldable pub fetched_bus : Bus → Said → Bus
fetched_bus b a =
    record {
      role = b.role;
      serial = b.serial;
      read = b.read || (b.serial && any (cell_said a));
      configuring = b.configuring;
      polled = b.polled;
      line = b.line;
    }

-- no other call changes it, but a create or reset, which begin it
abbrev pub after_call : Call → Said → Bus → Bus
after_call c a b = on_bus_command (commanded_bus b) (on_one bus_clear (cleared_bus b) (on_one bus_fetch (fetched_bus b a) b c) c) c

abbrev pub BusRoleGoes : Law
BusRoleGoes =
    of_calls
    (λ s. restarts s.call s.answer ≡ false →
    s.after.state.bus ≡ cond (taken s.answer) (after_call s.call s.answer s.before.state.bus) s.before.state.bus)
