-- What an answer is in the paper, and what it tells.
use Rattle.std.specs.Prelude.{ℕ, Bool, true, false, List, Result, Ok, Err}
use Rattle.frame.specs.Frame.{control_of, data_of}
use Rattle.answers.specs.declared.Answer.{Answer}
use Rattle.answers.specs.declared.Answer.TheVariants.{Done, Nothing, Byte, Frame, Cell, Lines}
use Rattle.answers.specs.declared.Refusal.{Refusal}
use Rattle.answers.specs.declared.Refusal.TheVariants as refusal

-- Sizes and refusals, last: done where no more is answered, and none where no line byte is next; a line byte; a frame by its control bits and its
-- data; a refusal by its number; and of showing the bytes of a part. On the bus of a mailbox a cell is a byte, with 256 more where its end is
-- marked, and the lines are the bits that answer a parallel poll, with 256 more while service is requested
pub data Said : Type 0 where
  done : Said
  none : Said
  byte : ℕ → Said
  frame : ℕ → ℕ → Said
  refused : ℕ → Said
  part : List ℕ → Said
  cell : ℕ → Said
  lines : ℕ → Said

-- an answer with the room of a store that is told beside it, 0 where none is told
pub record Answered : Type 0 where
  pub said : Said
  pub room : ℕ

-- what is seen of a refusal's number, and of any other answer
abbrev pub of_refusal : {X : Type 0} → (ℕ → X) → X → Said → X
of_refusal see other (refused n) = see n
of_refusal see other done = other
of_refusal see other none = other
of_refusal see other (byte b) = other
of_refusal see other (frame k d) = other
of_refusal see other (part xs) = other
of_refusal see other (cell n) = other
of_refusal see other (lines n) = other

-- what is seen of a line byte, and of any other answer
abbrev pub of_byte : {X : Type 0} → (ℕ → X) → X → Said → X
of_byte see other (byte b) = see b
of_byte see other done = other
of_byte see other none = other
of_byte see other (frame k d) = other
of_byte see other (refused n) = other
of_byte see other (part xs) = other
of_byte see other (cell n) = other
of_byte see other (lines n) = other

-- the call was refused
abbrev pub is_refusal : Said → Bool
is_refusal x = of_refusal (λ n. true) false x

-- the number of a refusal, 0 for any other answer
unfoldable pub fault_of : Said → ℕ
fault_of x = of_refusal (λ n. n) 0 x

-- whether a line byte is said, and which
unfoldable pub is_byte : Said → Bool
is_byte x = of_byte (λ b. true) false x

unfoldable pub byte_in : Said → ℕ
byte_in x = of_byte (λ b. b) 0 x

-- Sizes and refusals, last: done from a call that answers no more
abbrev pub done_or_refused : Said → Bool
done_or_refused done = true
done_or_refused (refused n) = true
done_or_refused none = false
done_or_refused (byte b) = false
done_or_refused (frame k d) = false
done_or_refused (part xs) = false
done_or_refused (cell n) = false
done_or_refused (lines n) = false

-- Sizes and refusals, last: a line byte, or none where none is next
abbrev pub byte_or_refused : Said → Bool
byte_or_refused (byte b) = true
byte_or_refused none = true
byte_or_refused (refused n) = true
byte_or_refused done = false
byte_or_refused (frame k d) = false
byte_or_refused (part xs) = false
byte_or_refused (cell n) = false
byte_or_refused (lines n) = false

-- Frames, first: one frame out for each that is taken
abbrev pub frame_or_refused : Said → Bool
frame_or_refused (frame k d) = true
frame_or_refused (refused n) = true
frame_or_refused done = false
frame_or_refused none = false
frame_or_refused (byte b) = false
frame_or_refused (part xs) = false
frame_or_refused (cell n) = false
frame_or_refused (lines n) = false

-- a cell, or none where there is none to give
abbrev pub cell_or_refused : Said → Bool
cell_or_refused (cell n) = true
cell_or_refused none = true
cell_or_refused (refused n) = true
cell_or_refused done = false
cell_or_refused (byte b) = false
cell_or_refused (frame k d) = false
cell_or_refused (part xs) = false
cell_or_refused (lines n) = false

-- the lines
abbrev pub lines_or_refused : Said → Bool
lines_or_refused (lines n) = true
lines_or_refused (refused n) = true
lines_or_refused done = false
lines_or_refused none = false
lines_or_refused (byte b) = false
lines_or_refused (frame k d) = false
lines_or_refused (part xs) = false
lines_or_refused (cell n) = false

-- Sizes and refusals, showing: no number, a part
abbrev pub is_part : Said → Bool
is_part (part xs) = true
is_part done = false
is_part none = false
is_part (byte b) = false
is_part (frame k d) = false
is_part (refused n) = false
is_part (cell n) = false
is_part (lines n) = false

-- the paper's number and values for each case of the answer; showing has no such answer, it returns the part itself
unfoldable pub said : Answer → Said
said Done = done
said Nothing = none
said (Byte b) = byte b
said (Frame f) = frame (control_of f) (data_of f)
said (Cell n) = cell n
said (Lines n) = lines n

-- the paper's number for each refusal
abbrev pub number_of : Refusal → ℕ
number_of refusal.Sizes = 1
number_of refusal.Misfit = 2
number_of refusal.LargeFrame = 3
number_of refusal.Busy = 4
number_of refusal.NotCarried = 5
number_of refusal.LargeValue = 6
number_of refusal.BitNotCarried = 7
number_of refusal.GoIsStop = 8
number_of refusal.Malformed = 9
number_of refusal.HeldLine = 10
number_of refusal.NotNext = 12
number_of refusal.LargeCommand = 13

-- what a call says that answers or refuses, where a refusal has this number
abbrev pub said_as : {R : Type 0} → (R → ℕ) → Result Answer R → Said
said_as number (Ok a) = said a
said_as number (Err r) = refused (number r)

-- the same where a refusal has the paper's number
abbrev pub said_by : Result Answer Refusal → Said
said_by = said_as number_of

-- the number of the refusal that a test finds, 0 where it finds none
abbrev pub fault_in : {X : Type 0} → Result X Refusal → ℕ
fault_in (Ok x) = 0
fault_in (Err r) = number_of r
