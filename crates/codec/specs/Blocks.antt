-- The states of a layout as blocks of bytes: which blocks are states, and what a block means.
use Rattle.std.specs.Prelude.{ℕ, ◌≡◌, Bool, true, false, cond, ◌&&◌, List, [], ◌∷◌, length, get_or, eqb}
use Rattle.codec.specs.Codec.{Codec}

-- two lists are the same
unfoldable pub same : List ℕ → List ℕ → Bool
same [] [] = true
same [] (y ∷ ys) = false
same (x ∷ xs) [] = false
same (x ∷ xs) (y ∷ ys) = eqb x y && same xs ys

module _ {S : Type 0} (layout : Codec S) where
  -- the block of a state, and the state that the bytes of a block are read as
  unfoldable pub packed : S → List ℕ
  packed s = layout.put s

  unfoldable pub unpacked : List ℕ → S
  unpacked b = layout.get b 0

  -- a block is a state if it has the length of one and is what the state that it is read as is packed as
  unfoldable pub is_state : List ℕ → Bool
  is_state b = eqb (length b) layout.len && same (packed (unpacked b)) b

  -- what a block means; `none` stands for the state of a block that is none
  unfoldable pub meaning : S → List ℕ → S
  meaning none b = cond (is_state b) (unpacked b) none

  -- a block is a state that fits
  unfoldable pub fitting_block : (S → Bool) → List ℕ → Bool
  fitting_block fits b = is_state b && fits (unpacked b)

  -- the first byte of every block of a state is this version
  abbrev pub StartsWith : ℕ → Type 0
  StartsWith version = (s : S) → get_or (layout.put s) 0 0 ≡ version

-- no block is a state of two layouts with different versions
abbrev pub NeverBoth : {S T : Type 0} → Codec S → Codec T → Type 0
NeverBoth c d = (b : List ℕ) → is_state c b ≡ true → is_state d b ≡ false
