-- Holding the line off: line bytes in, and line bytes out.
use Rattle.std.specs.Prelude.{◌≡◌, ℕ, ◌*◌, Bool, false, cond, not, ◌&&◌, ◌||◌, List, length, ◌==◌, nat_le, slice_index}
use Rattle.registers.specs.declared.Registers.{Registers}
use Rattle.registers.specs.Meanings.{protocol_on, go, stop}
use Rattle.store.specs.declared.Ring.{Ring}
use Rattle.store.specs.Ring.{Within, held, full, room, put_ring, put_bytes, drop_ring}
use Rattle.state.specs.declared.State.{State}
use Rattle.state.specs.declared.Line.{Line}
use Rattle.std.specs.Prelude.{Option, Some, None}
use Rattle.state.specs.declared.Next.{Next}
use Rattle.state.specs.declared.Next.TheVariants.{Own, Held}
use Rattle.answers.specs.declared.Answer.{Answer}
use Rattle.answers.specs.declared.Answer.TheVariants as answer
use Rattle.line.specs.declared.Took.{Took}
use Rattle.state.specs.State.{with_registers, with_line, with_rx, with_tx, with_overrun, noted}
use Rattle.state.specs.Counts.{stored_more, lost_more}

-- ---- line bytes in

-- Holding the line off, first: with the protocol on, go and stop are no data
unfoldable pub is_go_or_stop : Registers → ℕ → Bool
is_go_or_stop g b = protocol_on g && (b == go g || b == stop g)

-- Holding the line off, first: go permits our sending, stop forbids it
unfoldable pub flowed : State → ℕ → State
flowed s b = with_line s (record { holding = s.line.holding; forbidden = (b == stop s.regs); stopped = s.line.stopped })

-- the same state, held off or not
abbrev pub with_holding : State → Bool → State
with_holding s h = with_line s (record { holding = h; forbidden = s.line.forbidden; stopped = s.line.stopped })

-- Holding the line off, it begins: with the protocol on, where a stored byte leaves the margin or less
abbrev pub begun : State → State
begun s = with_holding s (s.line.holding || (protocol_on s.regs && nat_le (room s.rx) s.margin))

-- Holding the line off, second: a byte is stored, which left this ring
unfoldable pub stored_with : State → Ring → State
stored_with s ring = begun (stored_more (with_rx s ring))

abbrev pub stored_state : State → State
stored_state s = stored_with s (put_ring s.rx)

-- Holding the line off, second: a byte is lost, which sets overrun and the note that it happened again
unfoldable pub lost_state : State → State
lost_state s = lost_more (noted s with_overrun)

-- the state after a line byte, and the receive store's cells: the cell of a byte is the byte
unfoldable pub line_state : State → ℕ → State
line_state s b = cond (is_go_or_stop s.regs b) (flowed s b) (cond (full s.rx) (lost_state s) (stored_state s))

unfoldable pub line_bytes : State → List ℕ → ℕ → List ℕ
line_bytes s rx b = cond (is_go_or_stop s.regs b) rx (put_bytes rx s.rx b)

-- the state and the receive store after a line byte, and the room that is left in it
pub record Taken (s : State) (rx : List ℕ) (b : ℕ) (rx' : List ℕ) (t : Took) : Type 0 where
  pub state : t.state ≡ line_state s b
  pub room : t.room ≡ room t.state.rx
  pub within : Within t.state.rx
  pub bytes : rx' ≡ line_bytes s rx b
  pub size : length rx' ≡ length rx

-- Holding the line off, it ends: where a send leaves twice the margin or more
unfoldable pub resumed : State → State
resumed s = with_holding s (s.line.holding && not (nat_le (2 * s.margin) (room s.rx)))

-- Holding the line off, R11 written: held off by what is free now; Registers, last: and the other end's stop is lifted
unfoldable pub set_afresh : State → State
set_afresh s = with_line s (record { holding = protocol_on s.regs && nat_le (room s.rx) s.margin; forbidden = false; stopped = s.line.stopped })

-- a register written; R11 does more than change the register
unfoldable pub after_write : State → ℕ → Registers → State
after_write s n g = cond (n == 11) (set_afresh (with_registers s g)) (with_registers s g)

-- ---- line bytes out

-- Holding the line off, last: what we sent last, go or stop, is not what holds now
abbrev pub owed : Line → Bool
owed l = (l.holding && not l.stopped) || (l.stopped && not l.holding)

-- Holding the line off, last: a character that is owed goes before all else; then what is held, unless the other end forbids it
unfoldable pub next_out : State → List ℕ → Option Next
next_out s tx =
    cond (owed s.line) (Some (Own (cond s.line.holding (stop s.regs) (go s.regs))))
    (cond (s.line.forbidden || s.tx.len == 0) None
    (Some (Held (slice_index (held tx s.tx) 0))))

-- Ask, then take: the byte named is the one that is next
unfoldable pub is_next : Option Next → ℕ → Bool
is_next (Some (Own x)) b = x == b
is_next (Some (Held x)) b = x == b
is_next None b = false

-- the state when that byte is gone
unfoldable pub gone : State → Option Next → State
gone s (Some (Own b)) = with_line s (record { holding = s.line.holding; forbidden = s.line.forbidden; stopped = s.line.holding })
gone s (Some (Held b)) = with_tx s (drop_ring s.tx 1)
gone s None = s

-- the answer for that byte
unfoldable pub out_answer : Option Next → Answer
out_answer (Some (Own b)) = answer.Byte b
out_answer (Some (Held b)) = answer.Byte b
out_answer None = answer.Nothing
