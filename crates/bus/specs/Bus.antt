-- Response to HP-IB messages, the table of section 4 row by row, as far as it goes without what is handed over.
use Rattle.std.specs.Prelude.{ℕ, ◌/◌, Bool, true, false, cond, ◌&&◌, ◌||◌, eqb, leb, ltb}
use Rattle.role.specs.declared.Order.TheVariants.{Deselect}
use Rattle.role.specs.Role.{idle, addressed}
use Rattle.role.specs.Orders.{order_of, is_clear}
use Rattle.role.specs.Commands.{obeyed_role, after_command}
use Rattle.role.specs.RoleFit as role-fit
use Rattle.polls.specs.declared.Response.{Response}
use Rattle.polls.specs.Polls as polls
use Rattle.bus.specs.declared.Bus.{Bus}
use Rattle.bus.specs.declared.Fetch.{Fetch}
use Rattle.bus.specs.declared.Fetch.TheVariants.{Silent, Status, Data}

-- System startup: at the address of the switch, neither talker nor listener, not polled
abbrev pub start_bus : ℕ → Bus
start_bus address =
    record {
      role = record { address = address; phase = idle; listener = false };
      serial = false;
      read = false;
      configuring = false;
      polled = false;
      line = 0;
    }

-- DCL, and SDC to a listener: the numbers are those of the loop
unfoldable pub clears : Bus → ℕ → Bool
clears b c = is_clear (order_of 31 b.role c)

-- PPE, its sense: a parallel poll is answered while service is requested, whatever the code
abbrev pub response_of : Bus → Response
response_of b = record { on = b.polled; line = b.line; sense = true }

-- PPE and PPD, after PPC: 96 to 111 set the response, and 112 to 127 and any command that is not secondary end it; PPU ends it at any time
unfoldable pub response_after : Bus → ℕ → Response
response_after b c =
    cond (b.configuring && eqb (c / 16) 6) (polls.bus_response c)
    (cond (b.configuring || eqb c 21) polls.no_response
    (response_of b))

-- serial poll enable and disable, by which the status byte of this section is read
unfoldable pub serial_after : Bool → ℕ → Bool
serial_after serial c = cond (eqb c 24) true (cond (eqb c 25) false serial)

-- LAD, TAD, UNL and UNT: the role, as on the loop; PPC: for a listener
unfoldable pub commanded : Bus → ℕ → Bus
commanded b c =
    record {
      role = after_command 31 b.role c;
      serial = serial_after b.serial c;
      read = false;
      configuring = eqb c 5 && b.role.listener;
      polled = (response_after b c).on;
      line = (response_after b c).line;
    }

-- IFC: neither talker nor listener, not in a serial poll, and a PPC that waits ends as by a command that is not secondary
unfoldable pub interface_cleared : Bus → Bus
interface_cleared b =
    record {
      role = obeyed_role b.role Deselect;
      serial = false;
      read = false;
      configuring = false;
      polled = (response_after b 0).on;
      line = (response_after b 0).line;
    }

-- the answer to a parallel poll: the line's bit, or nothing
unfoldable pub poll_bits : Bus → Bool → ℕ
poll_bits b requested = polls.answer_bits (response_of b) requested

-- Retrieving data: a talker hands over what waits; in serial poll mode its status byte, once
unfoldable pub fetch_of : Bus → Fetch
fetch_of b =
    cond (eqb b.role.phase idle) Silent
    (cond (b.serial && b.read) Silent
    (cond b.serial Status
    Data))

-- when a device on the bus fits: as a role does, at an address of the bus, and with nothing under way, which the bus does not know
unfoldable pub fit_test : Bus → Bool
fit_test b = ((role-fit.fit_test b.role && leb b.role.address 30) && leb b.role.phase addressed) && ltb b.line 8
