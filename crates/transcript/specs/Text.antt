-- What is printed, as a list of ASCII codes.
use Rattle.std.specs.Prelude.{ℕ, ◌+◌, ◌/◌, ◌%◌, cond, List, [], ◌∷◌, ◌++◌, ltb}
use Rattle.answers.specs.Answers.{Said, done, none, byte, frame, refused, part, cell, lines}

-- the last decimal digit of a number
abbrev pub digit : ℕ → ℕ
digit n = 48 + n % 10

-- a number below 1,000 in decimal
unfoldable pub decimal : ℕ → List ℕ
decimal n =
    cond (ltb n 10) (digit n ∷ [])
    (cond (ltb n 100) (digit (n / 10) ∷ digit n ∷ [])
    (digit (n / 100) ∷ digit (n / 10) ∷ digit n ∷ []))

abbrev pub newline : List ℕ
newline = 10 ∷ []

-- "onepass 1" and a newline
abbrev pub first_line : List ℕ
first_line = 111 ∷ 110 ∷ 101 ∷ 112 ∷ 97 ∷ 115 ∷ 115 ∷ 32 ∷ 49 ∷ 10 ∷ []

-- "refused" and a space
abbrev pub refused_word : List ℕ
refused_word = 114 ∷ 101 ∷ 102 ∷ 117 ∷ 115 ∷ 101 ∷ 100 ∷ 32 ∷ []

-- "line" and a space
abbrev pub line_word : List ℕ
line_word = 108 ∷ 105 ∷ 110 ∷ 101 ∷ 32 ∷ []

-- the program, frames: the line of a refusal
unfoldable pub refused_text : ℕ → List ℕ
refused_text n = refused_word ++ (decimal n ++ newline)

-- Frames, first: the line of a frame, its control and its data with a comma between
unfoldable pub frame_text : ℕ → ℕ → List ℕ
frame_text c d = decimal c ++ ((44 ∷ []) ++ (decimal d ++ newline))

-- the line that the answer to a frame prints
unfoldable pub answer_text : Said → List ℕ
answer_text (frame c d) = frame_text c d
answer_text (refused n) = refused_text n
answer_text done = []
answer_text none = []
answer_text (byte b) = []
answer_text (part xs) = []
answer_text (cell n) = []
answer_text (lines n) = []

-- the program, last: line bytes, each after a space
unfoldable pub bytes_text : List ℕ → List ℕ
bytes_text [] = []
bytes_text (b ∷ bs) = ((32 ∷ []) ++ decimal b) ++ bytes_text bs
