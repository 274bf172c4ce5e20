-- What the number of a C call tells its caller: from the call, the buffers before it and the number answered.
use Rattle.std.specs.Prelude.{ℕ, ◌/◌, ◌%◌, ◌<◌, ◌≡◌, cond, List, take, drop, eqb}
use Rattle.frame.specs.Frame.{control_of, data_of}
use Rattle.answers.specs.Answers.{Said, done, none, frame, refused, part, lines}
use Rattle.answers.specs.Word.{word, word_with, kind_of, value_of}
use Rattle.boundary.specs.Product.{Product, Kind, creating, showing, calling}
use Rattle.boundary.specs.CCalls.{Lent, store_of, held_in, c_step}

-- the room that a number tells, in bits 32 to 47; the other bits are not looked at
unfoldable pub room_told : ℕ → ℕ
room_told n = n / 4294967296 % 65536

-- the number tells the kind, the value and the room
abbrev pub WordTells : Type 0
WordTells =
    (a : Said) (room : ℕ) → value_of a < 65536 → room < 65536 →
    (word_with a room / 65536 % 256 ≡ kind_of a) × ((word_with a room % 65536 ≡ value_of a) × (room_told (word_with a room) ≡ room))

-- and the reserved bits, 24 to 31 and 48 to 63, are 0
abbrev pub ReservedZero : Type 0
ReservedZero =
    (a : Said) (room : ℕ) → value_of a < 65536 → room < 65536 →
    (word_with a room / 16777216 % 256 ≡ 0) × (word_with a room / 281474976710656 ≡ 0)

-- an answer beside which no room is told has the number that it has alone
abbrev pub NoRoomAlone : Type 0
NoRoomAlone = (a : Said) → word_with a 0 ≡ word a

-- the answer of this kind and value: 0 done, 1 none, 2 a byte for the line or for the bus, 3 a frame, 5 the lines of the bus, 4 a refusal
unfoldable pub said_by : (ℕ → Said) → ℕ → ℕ → Said
said_by given kind value =
    cond (eqb kind 0) done
    (cond (eqb kind 1) none
    (cond (eqb kind 2) (given value)
    (cond (eqb kind 3) (frame (control_of value) (data_of value))
    (cond (eqb kind 5) (lines value)
    (refused value)))))

-- the answer that a number tells, by its kind in bits 16 to 23 and its value in bits 0 to 15; the other bits are not looked at
unfoldable pub answer_of : (ℕ → Said) → ℕ → Said
answer_of given n = said_by given (n / 65536 % 256) (n % 65536)

-- of showing: the part of the buffer, its start in bits 32 to 63 and its length in bits 0 to 31
unfoldable pub part_of : ℕ → List ℕ → Said
part_of n xs = part (take (n % 4294967296) (drop (n / 4294967296) xs))

module _ (P : Product) where
  -- the answer that the number of a call of this kind tells, beside the buffers lent to it
  unfoldable pub answer_by : Kind P.Side P.OnState → ℕ → Lent → Said
  answer_by (creating m) n l = answer_of P.given n
  answer_by (showing side) n l = part_of n (store_of P side (held_in P l))
  answer_by (calling c) n l = answer_of P.given n

  -- and the room; the number of showing has another form, and tells none
  unfoldable pub room_by : Kind P.Side P.OnState → ℕ → ℕ
  room_by (creating m) n = room_told n
  room_by (showing side) n = 0
  room_by (calling c) n = room_told n

  -- the answer of a C call
  unfoldable pub c_answer : P.Call → Lent → Said
  c_answer c l = answer_by (P.kind c) (c_step P c l).word l

  -- the room that it tells
  unfoldable pub c_room : P.Call → Lent → ℕ
  c_room c l = room_by (P.kind c) (c_step P c l).word
