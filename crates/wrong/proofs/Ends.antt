-- What the ends of short runs are seen to be. Assumes nothing.
use Prim.Native.Nat.{ℕ}
use mathlib.Core.Bool.{Bool, false}
use mathlib.Core.List.{List, [], ◌∷◌}
use lib.Dec.{eqb}
use lib.ListN.{get_or}
use Rattle.frame.specs.Frame.{made}
use Rattle.reading.specs.Received.{Received, a_byte, a_break}
use Rattle.answers.specs.Answers.{Said, done, none, byte, frame, refused, part, cell, lines}

-- the number at a place of the list is this one
abbrev pub has_at : ℕ → ℕ → List ℕ → Bool
has_at place n l = eqb (get_or l place 0) n

-- bytes and breaks as numbers, a break as 256
abbrev pub numbered : List Received → List ℕ
numbered [] = []
numbered (a_byte b ∷ l) = b ∷ numbered l
numbered (a_break ∷ l) = 256 ∷ numbered l

-- the answer is this frame
abbrev pub is_answer : ℕ → Said → Bool
is_answer f (frame k d) = eqb (made k d) f
is_answer f (refused n) = false
is_answer f done = false
is_answer f none = false
is_answer f (byte b) = false
is_answer f (part xs) = false
is_answer f (cell n) = false
is_answer f (lines n) = false
