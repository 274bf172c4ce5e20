-- Sizes and refusals, the places of the stores: place 0 first after create, reset or device clear, then place after place, and no other
-- byte is written; but a mark is written into the newest. It is said of one store over one call, of bytes and of cells alike, and by the
-- remainder.
use Rattle.std.specs.Prelude.{ℕ, ◌+◌, ◌-◌, ◌%◌, ◌≤◌, ◌<◌, ◌≡◌, Bool, true, cond, List, [], ◌∷◌, length, get_or, set}
use Rattle.store.specs.declared.Ring.{Ring}
use Rattle.store.specs.Ring.{Fit, empty_ring, put_ring, put_bytes, drop_ring}

-- the place that the next byte goes to
abbrev pub next_place : ℕ → Ring → ℕ
next_place cap r = (r.oldest + r.len) % cap

-- the place before a place
abbrev pub place_before : ℕ → ℕ → ℕ
place_before cap p = (p + (cap - 1)) % cap

-- the laws of the places of one store
pub record PlacesGoOn : Type 0 where
  -- the first byte goes to place 0
  pub first : (cap n : ℕ) → next_place cap (empty_ring n) ≡ 0
  -- a byte is written there, and nothing else is
  pub written : (s : List ℕ) (r : Ring) (b : ℕ) → Fit s r → r.len < length s → put_bytes s r b ≡ set s (next_place (length s) r) b
  -- each later one goes to the place after the one before
  pub later : (s : List ℕ) (r : Ring) → Fit s r → r.len < length s → next_place (length s) (put_ring r) ≡ (next_place (length s) r + 1) % length s
  -- also when bytes were removed in between, all of them too
  pub removed : (s : List ℕ) (r : Ring) (n : ℕ) → Fit s r → n ≤ r.len → next_place (length s) (drop_ring r n) ≡ next_place (length s) r
  -- the newest stands before it
  pub newest : (s : List ℕ) (r : Ring) → Fit s r → 0 < r.len → place_before (length s) (next_place (length s) r) ≡ (r.oldest + (r.len - 1)) % length s

-- ---- over a call

-- what a call writes: a byte behind the newest, or the newest once more, with its mark
pub data Write : Type 0 where
  anew : ℕ → Write
  again : Write

-- the place after the last that is written, from place p on; a mark does not move it
unfoldable pub place_after : ℕ → ℕ → List Write → ℕ
place_after cap p [] = p
place_after cap p (anew b ∷ l) = place_after cap ((p + 1) % cap) l
place_after cap p (again ∷ l) = place_after cap p l

-- what a mark makes of a cell
module _ (mark : ℕ → ℕ) where
  -- the cell at place p marked
  abbrev pub marked_at : ℕ → List ℕ → List ℕ
  marked_at p s = set s p (mark (get_or s p 0))

  -- the store with all of l written, the first byte at place p and each at the place after the one before it; a mark goes to the newest
  unfoldable pub written_from : ℕ → List Write → List ℕ → List ℕ
  written_from p [] s = s
  written_from p (anew b ∷ l) s = written_from ((p + 1) % length s) l (set s p b)
  written_from p (again ∷ l) s = written_from p l (marked_at (place_before (length s) p) s)

  -- one store over a call that writes l: the bytes s and the ring r before it, s' and r' after it
  pub record Placed (emptied : Bool) (l : List Write) (s : List ℕ) (r : Ring) (s' : List ℕ) (r' : Ring) : Type 0 where
    -- bytes go to the next place and on, a mark to the newest, and no other place is written
    pub bytes : s' ≡ written_from (next_place (length s) r) l s
    -- the next place is place 0 in a store that was emptied, else the one after them; bytes that leave do not move it
    pub next : next_place (length s) r' ≡ cond emptied 0 (place_after (length s) (next_place (length s) r) l)
    -- an emptied store holds nothing
    pub none : emptied ≡ true → r'.len ≡ 0
