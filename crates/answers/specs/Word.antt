-- The number that an answer is, in 64 bits.
use Rattle.std.specs.Prelude.{ℕ, ◌+◌, ◌*◌, length}
use Rattle.frame.specs.Frame.{made}
use Rattle.answers.specs.Answers.{Said, done, none, byte, frame, refused, part, cell, lines}

-- the value in bits 0 to 15 and the kind in bits 16 to 23
abbrev pub of_kind : ℕ → ℕ → ℕ
of_kind kind value = 65536 * kind + value

-- 0 done, 1 none, 2 a byte for the line or for the bus, 3 a frame, 4 a refusal, 5 the lines of the bus
unfoldable pub kind_of : Said → ℕ
kind_of done = 0
kind_of none = 1
kind_of (byte b) = 2
kind_of (frame c d) = 3
kind_of (refused n) = 4
kind_of (part xs) = 0
kind_of (cell n) = 2
kind_of (lines n) = 5

-- the byte or cell, the frame with its control bits above its data bits, the paper's number of the refusal, or the lines; of a part that is
-- shown its length
unfoldable pub value_of : Said → ℕ
value_of done = 0
value_of none = 0
value_of (byte b) = b
value_of (frame c d) = made c d
value_of (refused n) = n
value_of (part xs) = length xs
value_of (cell n) = n
value_of (lines n) = n

unfoldable pub word : Said → ℕ
word a = of_kind (kind_of a) (value_of a)

-- the same with the room that a call tells in bits 32 to 47; bits 24 to 31 and 48 to 63 are reserved and 0 for now, and a reader masks them off
unfoldable pub word_with : Said → ℕ → ℕ
word_with a room = 4294967296 * room + word a
