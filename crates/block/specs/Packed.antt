-- The packed block: the state travels as a lent block of bytes of one fixed length, each field at a fixed place. A size or a place stands in
-- two bytes and a count in four, low byte first, a register in one byte, a flag as 1 or 0.
use Rattle.std.specs.Prelude.{ℕ, ◌≡◌, refl, Bool, true, List, take, drop}
use Rattle.std.proofs.Common.{arith}
use Rattle.state.specs.declared.State.{State}
use Rattle.codec.specs.Codec.{Codec, Rows, byte, two, four, flag, field, marked, through, ◌▸◌}
use Rattle.codec.specs.Blocks as blocks

-- the one length of a block
abbrev pub block_len : ℕ
block_len = 56

-- which layout the block has, at place 0: another layout will have another number
abbrev pub version : ℕ
version = 3

-- the table: the state that is made of the fields in their order, then a row for each field, with the place where it starts
abbrev pub rows : Rows State State
rows =
    marked version (omega arith)
    (λ (margin : ℕ)
    (rxSize rxOldest rxLen txSize txOldest txLen : ℕ)
    (stored lost sent : ℕ)
    (address phase : ℕ) (listener : Bool)
    (frame : ℕ) (finishing : Bool)
    (r00 r01 r02 r10 r11 c00 c01 c02 c03 c04 c05 : ℕ)
    (holding forbidden stopped : Bool)
    (brk overrun key brkAgain overrunAgain keyAgain request : Bool)
    (enabled remote : Bool).
    record {
      margin = margin;
      regs = record { r00 = r00; r01 = r01; r02 = r02; r10 = r10; r11 = r11; c00 = c00; c01 = c01; c02 = c02; c03 = c03; c04 = c04; c05 = c05 };
      talker = record {
        role = record { address = address; phase = phase; listener = listener };
        under = record { frame = frame; finishing = finishing };
      };
      remote = record { enabled = enabled; remote = remote };
      rx = record { cap = rxSize; oldest = rxOldest; len = rxLen };
      tx = record { cap = txSize; oldest = txOldest; len = txLen };
      line = record { holding = holding; forbidden = forbidden; stopped = stopped };
      notes = record {
        seen = record { brk = brk; overrun = overrun; key = key };
        again = record { brk = brkAgain; overrun = overrunAgain; key = keyAgain };
        request = request;
      };
      counts = record { stored = stored; lost = lost; sent = sent };
    })
    ▸ field 1 two (λ s. s.margin)
    ▸ field 3 two (λ s. s.rx.cap)
    ▸ field 5 two (λ s. s.rx.oldest)
    ▸ field 7 two (λ s. s.rx.len)
    ▸ field 9 two (λ s. s.tx.cap)
    ▸ field 11 two (λ s. s.tx.oldest)
    ▸ field 13 two (λ s. s.tx.len)
    ▸ field 15 four (λ s. s.counts.stored)
    ▸ field 19 four (λ s. s.counts.lost)
    ▸ field 23 four (λ s. s.counts.sent)
    ▸ field 27 byte (λ s. s.talker.role.address)
    ▸ field 28 byte (λ s. s.talker.role.phase)
    ▸ field 29 flag (λ s. s.talker.role.listener)
    ▸ field 30 two (λ s. s.talker.under.frame)
    ▸ field 32 flag (λ s. s.talker.under.finishing)
    ▸ field 33 byte (λ s. s.regs.r00)
    ▸ field 34 byte (λ s. s.regs.r01)
    ▸ field 35 byte (λ s. s.regs.r02)
    ▸ field 36 byte (λ s. s.regs.r10)
    ▸ field 37 byte (λ s. s.regs.r11)
    ▸ field 38 byte (λ s. s.regs.c00)
    ▸ field 39 byte (λ s. s.regs.c01)
    ▸ field 40 byte (λ s. s.regs.c02)
    ▸ field 41 byte (λ s. s.regs.c03)
    ▸ field 42 byte (λ s. s.regs.c04)
    ▸ field 43 byte (λ s. s.regs.c05)
    ▸ field 44 flag (λ s. s.line.holding)
    ▸ field 45 flag (λ s. s.line.forbidden)
    ▸ field 46 flag (λ s. s.line.stopped)
    ▸ field 47 flag (λ s. s.notes.seen.brk)
    ▸ field 48 flag (λ s. s.notes.seen.overrun)
    ▸ field 49 flag (λ s. s.notes.seen.key)
    ▸ field 50 flag (λ s. s.notes.again.brk)
    ▸ field 51 flag (λ s. s.notes.again.overrun)
    ▸ field 52 flag (λ s. s.notes.again.key)
    ▸ field 53 flag (λ s. s.notes.request)
    ▸ field 54 flag (λ s. s.remote.enabled)
    ▸ field 55 flag (λ s. s.remote.remote)

-- each place of the table is where the bytes of the rows before it end
pub places : rows.placed ≡ true
places = refl

-- each field is found again in the state that is made of them, and a state is made of its fields
abbrev pub layout : Codec State
layout = through rows.codec rows.made rows.fields (λ s. refl) (λ p. refl)

-- the block of a state, and its two parts
abbrev pub packed : State → List ℕ
packed s = blocks.packed layout s

abbrev pub packed_head : State → List ℕ
packed_head s = take 27 (layout.put s)

abbrev pub packed_tail : State → List ℕ
packed_tail s = drop 27 (layout.put s)

-- the state that the bytes of a block are read as
abbrev pub state_at : List ℕ → State
state_at b = layout.get b 0

abbrev pub unpacked : List ℕ → State
unpacked b = blocks.unpacked layout b
