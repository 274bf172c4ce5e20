-- A store as a ring on a list of items of any one type: when it fits, what it holds, and what is written.
pub mod Basis
use Rattle.std.specs.Prelude.{ℕ, ◌+◌, ◌-◌, ◌≤◌, ◌<◌, min, ◌≡◌, List, [], ◌∷◌, ◌++◌, Bool, cond, ◌&&◌, length, take, drop, set, eqb, leb, ltb}
use Rattle.store.specs.declared.Ring.{Ring}

-- the ring is within its capacity: the oldest place is one of its places, and no more is held than it has; 1 to 32,768 places
pub record Within (r : Ring) : Type 0 where
  pub oldest : r.oldest < r.cap
  pub len : r.len ≤ r.cap
  pub small : r.cap ≤ 32768

-- the ring fits the list: it is within its capacity, which is the list's length
pub record Fit {A : Type 0} (s : List A) (r : Ring) : Type 0 where
  pub cap : r.cap ≡ length s
  pub within : Within r

-- the ring fits a list of this length, as a test
unfoldable pub fit_test : ℕ → Ring → Bool
fit_test cap r = ((eqb r.cap cap && ltb r.oldest cap) && leb r.len cap) && leb cap 32768

-- the bytes from oldest to newest: len of them from the oldest place, in the list written out twice
pub held : {A : Type 0} → List A → Ring → List A
held s r = take r.len (drop r.oldest (s ++ s))

-- Sizes and refusals, places: after the last place comes place 0
pub wrap : ℕ → ℕ → ℕ
wrap cap p = cond (leb cap p) (p - cap) p

-- Sizes and refusals, places: an emptied store begins at place 0
abbrev pub empty_ring : ℕ → Ring
empty_ring cap = record { cap = cap; oldest = 0; len = 0 }

-- all places are taken
abbrev pub full : Ring → Bool
full r = leb r.cap r.len

-- how many places are free
abbrev pub room : Ring → ℕ
room r = r.cap - r.len

-- one byte more behind the newest, unless the store is full
unfoldable pub put_ring : Ring → Ring
put_ring r = record { cap = r.cap; oldest = r.oldest; len = cond (full r) r.len (r.len + 1) }

-- Sizes and refusals, places: a byte is written behind the newest one, unless the store is full, and nothing else is
unfoldable pub put_bytes : {A : Type 0} → List A → Ring → A → List A
put_bytes s r b = cond (full r) s (set s (wrap r.cap (r.oldest + r.len)) b)

-- several bytes, one after the other
unfoldable pub puts_ring : {A : Type 0} → Ring → List A → Ring
puts_ring r [] = r
puts_ring r (b ∷ l) = puts_ring (put_ring r) l

unfoldable pub puts_bytes : {A : Type 0} → List A → Ring → List A → List A
puts_bytes s r [] = s
puts_bytes s r (b ∷ l) = puts_bytes (put_bytes s r b) (put_ring r) l

-- without the n oldest bytes; the place of the next byte stays, also where none is left
unfoldable pub drop_ring : Ring → ℕ → Ring
drop_ring r n = record { cap = r.cap; oldest = wrap r.cap (r.oldest + n); len = r.len - n }

-- Sizes and refusals, showing: from the oldest byte on, as far as the bytes stand together
pub run : {A : Type 0} → List A → Ring → List A
run s r = take (min r.len (length s - r.oldest)) (drop r.oldest s)
