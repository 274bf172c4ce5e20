-- Proved examples, the program onepass, input: three sections, registers in pairs, line bytes, and frames of two bytes, each with its count
-- before it.
use Rattle.std.specs.Prelude.{ℕ, ◌+◌, ◌*◌, ◌≤◌, ◌≡◌, Bool, cond, ◌&&◌, List, length, get_or, eqb, leb, Option, None, Some, option_and_then}
use Rattle.transcript.specs.declared.Sections.{Sections}

-- two bytes, high byte first
abbrev pub high : List ℕ → ℕ → ℕ
high x i = 256 * get_or x i 0 + get_or x (i + 1) 0

-- where the counts of the second and the third section stand, and where the input ends, for the counts before them
abbrev pub second_at : ℕ → ℕ
second_at a = 2 + 2 * a

abbrev pub third_at : ℕ → ℕ → ℕ
third_at a b = 4 + 2 * a + b

abbrev pub end_at : ℕ → ℕ → ℕ → ℕ
end_at a b c = 6 + 2 * a + b + 2 * c

abbrev pub sections : ℕ → ℕ → ℕ → Sections
sections a b c = record { regs = a; bytes = b; frames = c }

-- a count stands at i, and is at most 64
abbrev pub counted : List ℕ → ℕ → Bool
counted x i = leb (i + 2) (length x) && leb (high x i) 64

-- that count, and none in input with no count at i, or with one above 64
unfoldable pub count_at : List ℕ → ℕ → Option ℕ
count_at x i = cond (counted x i) (Some (high x i)) None

-- the numbers of items, when those of all three, two, one or none of the sections are read; input that is too short or too long is malformed,
-- and has none
unfoldable pub end_of : List ℕ → ℕ → ℕ → ℕ → Option Sections
end_of x a b c = cond (eqb (length x) (end_at a b c)) (Some (sections a b c)) None

unfoldable pub third_of : List ℕ → ℕ → ℕ → Option Sections
third_of x a b = option_and_then (end_of x a b) (count_at x (third_at a b))

unfoldable pub second_of : List ℕ → ℕ → Option Sections
second_of x a = option_and_then (third_of x a) (count_at x (second_at a))

unfoldable pub sections_of : List ℕ → Option Sections
sections_of x = option_and_then (second_of x) (count_at x 0)

-- input of these sections, each of at most 64 items
pub record Whole (x : List ℕ) (p : Sections) : Type 0 where
  pub regs : p.regs ≤ 64
  pub bytes : p.bytes ≤ 64
  pub frames : p.frames ≤ 64
  pub all : length x ≡ end_at p.regs p.bytes p.frames
