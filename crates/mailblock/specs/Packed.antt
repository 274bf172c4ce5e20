-- The packed block of a mailbox: the state travels as a lent block of bytes of one fixed length, each field at a fixed place. A size, a place
-- or a frame stands in two bytes, low byte first, an address, a phase, a source or a line in one byte, a flag as 1 or 0.
use Rattle.std.specs.Prelude.{ℕ, ◌+◌, ◌≡◌, refl, Bool, true, List, take, drop}
use Rattle.std.proofs.Common.{arith}
use Rattle.codec.specs.Codec.{Codec, Rows, byte, two, flag, field, marked, through, ◌▸◌}
use Rattle.codec.specs.Blocks as blocks
use Rattle.codec.specs.Parts.{ring_at}
use Rattle.way.specs.declared.Way.{Way}
use Rattle.mailstate.specs.declared.State.{State}

-- the one length of a block
abbrev pub block_len : ℕ
block_len = 41

-- which layout the block has, at place 0: no layout of a bridge's block has this number
abbrev pub version : ℕ
version = 129

-- the table: the state that is made of the fields in their order, then a row for each field, with the place where it starts
abbrev pub rows : Rows State State
rows =
    marked version (omega arith)
    (λ (busSize busOldest busLen loopSize loopOldest loopLen : ℕ)
    (frame heldFrame : ℕ)
    (address phase : ℕ) (listener finishing : Bool) (source line : ℕ)
    (busAddress busPhase busLine : ℕ) (busListener : Bool)
    (busRequest busAvailable busAgain loopRequest loopAvailable loopAgain : Bool)
    (enabled held : Bool)
    (on sense : Bool)
    (serial read configuring polled : Bool).
    record {
      tobus = record {
        ring = record { cap = busSize; oldest = busOldest; len = busLen };
        news = record { request = busRequest; available = busAvailable; again = busAgain };
      };
      toloop = record {
        ring = record { cap = loopSize; oldest = loopOldest; len = loopLen };
        news = record { request = loopRequest; available = loopAvailable; again = loopAgain };
      };
      talker = record {
        role = record { address = address; phase = phase; listener = listener };
        under = record { frame = frame; finishing = finishing };
      };
      source = source;
      hold = record { enabled = enabled; held = held; frame = heldFrame };
      response = record { on = on; line = line; sense = sense };
      bus = record {
        role = record { address = busAddress; phase = busPhase; listener = busListener };
        serial = serial;
        read = read;
        configuring = configuring;
        polled = polled;
        line = busLine;
      };
    })
    ▸ field 1 two (λ s. s.tobus.ring.cap)
    ▸ field 3 two (λ s. s.tobus.ring.oldest)
    ▸ field 5 two (λ s. s.tobus.ring.len)
    ▸ field 7 two (λ s. s.toloop.ring.cap)
    ▸ field 9 two (λ s. s.toloop.ring.oldest)
    ▸ field 11 two (λ s. s.toloop.ring.len)
    ▸ field 13 two (λ s. s.talker.under.frame)
    ▸ field 15 two (λ s. s.hold.frame)
    ▸ field 17 byte (λ s. s.talker.role.address)
    ▸ field 18 byte (λ s. s.talker.role.phase)
    ▸ field 19 flag (λ s. s.talker.role.listener)
    ▸ field 20 flag (λ s. s.talker.under.finishing)
    ▸ field 21 byte (λ s. s.source)
    ▸ field 22 byte (λ s. s.response.line)
    ▸ field 23 byte (λ s. s.bus.role.address)
    ▸ field 24 byte (λ s. s.bus.role.phase)
    ▸ field 25 byte (λ s. s.bus.line)
    ▸ field 26 flag (λ s. s.bus.role.listener)
    ▸ field 27 flag (λ s. s.tobus.news.request)
    ▸ field 28 flag (λ s. s.tobus.news.available)
    ▸ field 29 flag (λ s. s.tobus.news.again)
    ▸ field 30 flag (λ s. s.toloop.news.request)
    ▸ field 31 flag (λ s. s.toloop.news.available)
    ▸ field 32 flag (λ s. s.toloop.news.again)
    ▸ field 33 flag (λ s. s.hold.enabled)
    ▸ field 34 flag (λ s. s.hold.held)
    ▸ field 35 flag (λ s. s.response.on)
    ▸ field 36 flag (λ s. s.response.sense)
    ▸ field 37 flag (λ s. s.bus.serial)
    ▸ field 38 flag (λ s. s.bus.read)
    ▸ field 39 flag (λ s. s.bus.configuring)
    ▸ field 40 flag (λ s. s.bus.polled)

-- each place of the table is where the bytes of the rows before it end
pub places : rows.placed ≡ true
places = refl

-- each field is found again in the state that is made of them, and a state is made of its fields
abbrev pub layout : Codec State
layout = through rows.codec rows.made rows.fields (λ s. refl) (λ p. refl)

-- the block of a state, and its two parts
abbrev pub packed : State → List ℕ
packed s = blocks.packed layout s

abbrev pub packed_head : State → List ℕ
packed_head s = take 17 (layout.put s)

abbrev pub packed_tail : State → List ℕ
packed_tail s = drop 17 (layout.put s)

-- the way whose ring stands from i on and whose news stands from j on
abbrev pub way_at : List ℕ → ℕ → ℕ → Way
way_at b i j = record { ring = ring_at b i; news = record { request = flag.get b j; available = flag.get b (j + 1); again = flag.get b (j + 2) } }

-- the state that the bytes of a block are read as
abbrev pub state_at : List ℕ → State
state_at b = layout.get b 0

abbrev pub unpacked : List ℕ → State
unpacked b = blocks.unpacked layout b
