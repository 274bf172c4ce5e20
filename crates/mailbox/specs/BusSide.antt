-- Response to HP-IB messages: what is left, handed over and cleared by the bus. The bus's roles and polls are in the crate bus.
use Rattle.std.specs.Prelude.{ℕ, ◌+◌, ◌%◌, ◌≡◌, Bool, true, cond, ◌&&◌, List, eqb, length, get_or}
use Rattle.store.specs.Ring.{held, full, put_bytes}
use Rattle.news.specs.News.{no_news, news_byte}
use Rattle.way.specs.Way.{empty_way, left_in, fetched, told}
use Rattle.bus.specs.declared.Bus.{Bus}
use Rattle.bus.specs.declared.Fetch.{Fetch}
use Rattle.bus.specs.declared.Fetch.TheVariants.{Silent, Status, Data}
use Rattle.bus.specs.Bus.{clears, commanded, interface_cleared, fetch_of, poll_bits}
use Rattle.mailstate.specs.declared.State.{State}
use Rattle.mailstate.specs.Outcome.{Outcome}
use Rattle.answers.specs.declared.Answer.TheVariants as answer
use Rattle.mailstate.specs.State.{with_to_bus, with_to_loop, with_bus}

abbrev pub done_with : State → Outcome
done_with s = record { state = s; answer = answer.Done }

-- ---- Command group

-- DCL, and SDC to a listener: the way to the loop is cleared; then what a command does on the bus
unfoldable pub bus_command : State → ℕ → Outcome
bus_command s c =
    done_with (with_bus (cond (clears s.bus c) (with_to_loop s (empty_way s.toloop.ring.cap)) s) (commanded s.bus c))

-- IFC
unfoldable pub bus_clear : State → Outcome
bus_clear s = done_with (with_bus s (interface_cleared s.bus))

-- ---- Data group

-- the cell of a byte, with the end mark where EOI is true
abbrev pub cell_with : ℕ → Bool → ℕ
cell_with b mark = cond mark (b + 256) b

-- the buffer lacks room for the byte, and the bus waits
abbrev pub bus_busy : State → Bool
bus_busy s = s.bus.role.listener && full s.toloop.ring

-- DAB and END: a listener keeps the byte, and nobody else does
unfoldable pub bus_byte : State → Outcome
bus_byte s = done_with (cond s.bus.role.listener (with_to_loop s (left_in s.toloop)) s)

unfoldable pub bus_cells : State → List ℕ → ℕ → Bool → List ℕ
bus_cells s cells b mark = cond s.bus.role.listener (put_bytes cells s.toloop.ring (cell_with b mark)) cells

-- the outcome and the way to the loop after a byte
pub record Taken (s : State) (toloop : List ℕ) (b : ℕ) (mark : Bool) (toloop' : List ℕ) (o : Outcome) : Type 0 where
  pub outcome : o ≡ bus_byte s
  pub cells : toloop' ≡ bus_cells s toloop b mark
  pub size : length toloop' ≡ length toloop

-- ---- Retrieving data

-- the status byte is read, once
abbrev pub read : Bus → Bus
read b = record { role = b.role; serial = b.serial; read = true; configuring = b.configuring; polled = b.polled; line = b.line }

-- the oldest cell that waits for the bus
unfoldable pub data_given : State → List ℕ → Outcome
data_given s cells =
    cond (eqb s.tobus.ring.len 0) (record { state = s; answer = answer.Nothing })
    (record { state = with_to_bus s (fetched s.tobus); answer = answer.Cell (get_or (held cells s.tobus.ring) 0 0 % 512) })

-- the HP-IB status byte, by which all of it is told
unfoldable pub status_given : State → Outcome
status_given s =
    record { state = with_bus (with_to_bus s (told s.tobus no_news)) (read s.bus); answer = answer.Cell (news_byte s.tobus.news) }

-- Silent is a mailbox that is not asked, or whose status byte was read
unfoldable pub given : State → List ℕ → Fetch → Outcome
given s cells Silent = record { state = s; answer = answer.Nothing }
given s cells Data = data_given s cells
given s cells Status = status_given s

unfoldable pub bus_fetch : State → List ℕ → Outcome
bus_fetch s cells = given s cells (fetch_of s.bus)

-- ---- the lines: SRQ, which is 256, and the answer to a parallel poll

unfoldable pub bus_lines : State → Outcome
bus_lines s =
    record { state = s; answer = answer.Lines (cell_with (poll_bits s.bus s.tobus.news.request) s.tobus.news.request) }
