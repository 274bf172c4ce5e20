-- What the number of an answer tells. Assumes nothing.
use Prim.Native.Nat.{ℕ, ◌/◌, ◌%◌, ◌<◌}
use native.Mathlib.Omega.{arith}
use mathlib.Core.Path.{◌≡◌, refl, subst, ◌∙◌}
use mathlib.Core.List.{List, [], ◌∷◌}
use lib.Dec.{eqb}
use Rattle.branches.proofs.Branches.{by_cond}
use Rattle.answers.specs.Refusals.{Check, first_refusal}
use Rattle.frame.specs.Frame.{control_of, data_of, made}
use Rattle.answers.specs.Answers.{Said, done, none, byte, frame, refused, part, cell, lines}
use Rattle.answers.specs.Word.{word, word_with, kind_of, value_of}
use Rattle.boundary.specs.Numbers.{room_told, WordTells, ReservedZero, NoRoomAlone, said_by, answer_of}

-- there are six kinds of answer
few_kinds : (a : Said) → kind_of a < 6
unfolding kind_of
few_kinds done = omega arith
few_kinds none = omega arith
few_kinds (byte b) = omega arith
few_kinds (frame c d) = omega arith
few_kinds (refused n) = omega arith
few_kinds (part xs) = omega arith
few_kinds (cell n) = omega arith
few_kinds (lines n) = omega arith

-- a number without room has 24 bits
word_small : (a : Said) → value_of a < 65536 → word a < 16777216
unfolding word
word_small a h = omega (arith, few_kinds a)

-- and tells the kind and the value
alone_tells : (a : Said) → value_of a < 65536 → (word a / 65536 % 256 ≡ kind_of a) × (word a % 65536 ≡ value_of a)
unfolding word
alone_tells a h = (omega (arith, few_kinds a), omega arith)

-- the bits below the room are those of the number without it
low_bits : (a : Said) (r : ℕ) → (word_with a r / 65536 % 256 ≡ word a / 65536 % 256) × (word_with a r % 65536 ≡ word a % 65536)
unfolding word_with
low_bits a r = (omega arith, omega arith)

pub room_read : (a : Said) (r : ℕ) → value_of a < 65536 → r < 65536 → room_told (word_with a r) ≡ r
unfolding word_with room_told
room_read a r h k = omega (arith, word_small a h)

pub word_tells : WordTells
word_tells a r h k =
    let low = low_bits a r in
    let w = alone_tells a h in
    (low.0 ∙ w.0, (low.1 ∙ w.1, room_read a r h k))

pub reserved_zero : ReservedZero
unfolding word_with
reserved_zero a r h k = (omega (arith, word_small a h), omega (arith, word_small a h))

pub no_room_alone : NoRoomAlone
unfolding word_with
no_room_alone a = omega arith

-- an answer whose value has 16 bits is told by its number, if its kind and value tell it
module _ (given : ℕ → Said) where
  by_word : (a : Said) → value_of a < 65536 → said_by given (kind_of a) (value_of a) ≡ a → answer_of given (word a) ≡ a
  unfolding answer_of
  by_word a h e = let w = alone_tells a h in (λ i. said_by given (w.0 i) (w.1 i)) ∙ e

  -- the room does not change what answer is told
  pub same_told : (a : Said) (r : ℕ) → answer_of given (word_with a r) ≡ answer_of given (word a)
  unfolding answer_of
  same_told a r = let low = low_bits a r in λ i. said_by given (low.0 i) (low.1 i)

  -- an answer that its number tells has a value of 16 bits
  module _ (valued : (n : ℕ) → value_of (given n) ≡ n) where
    abbrev Small : Said → Type 0
    Small a = value_of a < 65536

    said_small : (k v : ℕ) → v < 65536 → Small (said_by given k v)
    unfolding said_by value_of
    said_small k v h =
        by_cond Small (eqb k 0) _ _ (λ _. omega arith)
        (λ _. by_cond Small (eqb k 1) _ _ (λ _. omega arith)
        (λ _. by_cond Small (eqb k 2) _ _ (λ _. omega (arith, valued v))
        (λ _. by_cond Small (eqb k 3) _ _ (λ _. omega arith)
        (λ _. by_cond Small (eqb k 5) _ _ (λ _. h)
        (λ _. h)))))

    pub told_small : (a : Said) → answer_of given (word a) ≡ a → Small a
    unfolding answer_of
    told_small a e = subst Small e (said_small (word a / 65536 % 256) (word a % 65536) (omega arith))

  pub done_told : answer_of given (word done) ≡ done
  unfolding kind_of value_of said_by
  done_told = by_word done (omega arith) refl

  pub none_told : answer_of given (word none) ≡ none
  unfolding kind_of value_of said_by
  none_told = by_word none (omega arith) refl

  pub refusal_told : (n : ℕ) → n < 65536 → answer_of given (word (refused n)) ≡ refused n
  unfolding kind_of value_of said_by
  refusal_told n h = by_word (refused n) h refl

  pub lines_told : (n : ℕ) → n < 65536 → answer_of given (word (lines n)) ≡ lines n
  unfolding kind_of value_of said_by
  lines_told n h = by_word (lines n) h refl

  pub frame_told : (k d : ℕ) → k < 256 → d < 256 → answer_of given (word (frame k d)) ≡ frame k d
  unfolding kind_of value_of said_by
  frame_told k d h j =
      let high : control_of (made k d) ≡ k = omega arith in
      let low : data_of (made k d) ≡ d = omega arith in
      by_word (frame k d) (omega arith) (λ i. frame (high i) (low i))

pub byte_told : (n : ℕ) → n < 65536 → answer_of byte (word (byte n)) ≡ byte n
unfolding kind_of value_of said_by
byte_told n h = by_word byte (byte n) h refl

pub cell_told : (n : ℕ) → n < 65536 → answer_of cell (word (cell n)) ≡ cell n
unfolding kind_of value_of said_by
cell_told n h = by_word cell (cell n) h refl

-- the first refusal of a list is one of its numbers
abbrev pub SmallNumbers : List Check → Type 0
SmallNumbers [] = Unit {0}
SmallNumbers (c ∷ cs) = (c.number < 65536) × SmallNumbers cs

pub first_small : (cs : List Check) → SmallNumbers cs → first_refusal cs < 65536
first_small [] h = omega arith
first_small (c ∷ cs) h = by_cond (λ (n : ℕ). n < 65536) c.given _ _ (λ e. h.0) (λ e. first_small cs h.1)
