-- What each call of the store promises: first what fixes the result and every byte, then what callers use of it. Then what the store promises of
-- the definitions that these name. The crates that carry frames know nothing else of it.
use Rattle.std.specs.Prelude.{ℕ, ◌+◌, ◌-◌, ◌≤◌, ◌<◌, min, ◌≡◌, MatchOption, unwrap_or, List, [], ◌∷◌, ◌++◌, cond, length, take, drop}
use Rattle.store.specs.declared.Stretch.{Stretch}
use Rattle.store.specs.declared.Ring.{Ring}
use Rattle.store.specs.declared.Offered.{Offered}
use Rattle.store.specs.Ring.{Within, Fit, held, full, room, put_ring, put_bytes, puts_ring, puts_bytes, drop_ring, run}

-- what a byte offered finds in the ring: none where the store is full, and else the ring after it; and the room that is left
pub record Offering (r : Ring) (o : Offered) : Type 0 where
  pub after : MatchOption o.after (r.cap ≤ r.len) (λ q. (r.len < r.cap) × (q ≡ put_ring r))
  pub room : o.room ≡ room (put_ring r)

-- a byte b offered: s and r before, s' after, and the answer o; where there is no ring in it the ring stays
pub record Put {A : Type 0} (s : List A) (r : Ring) (b : A) (s' : List A) (o : Offered) : Type 0 where
  pub offering : Offering r o
  pub ring : unwrap_or o.after r ≡ put_ring r
  pub bytes : s' ≡ put_bytes s r b
  pub size : length s' ≡ length s
  pub fit : Fit s' (put_ring r)
  pub holds : held s' (put_ring r) ≡ held s r ++ cond (full r) [] (b ∷ [])

-- the n oldest bytes dropped, of whatever list the ring fits
pub record Dropped (r : Ring) (n : ℕ) (o : Ring) : Type 0 where
  pub ring : o ≡ drop_ring r n
  pub len : o.len ≡ r.len - n
  pub fit : (s : List ℕ) → Fit s r → Fit s o
  pub holds : (s : List ℕ) → Fit s r → held s o ≡ drop n (held s r)

-- the places of the part shown
pub record Spanned (r : Ring) (o : Stretch) : Type 0 where
  pub start : o.start ≡ r.oldest
  pub size : o.end - o.start ≡ min r.len (r.cap - r.oldest)
  pub order : o.start ≤ o.end
  pub below : o.end ≤ r.cap

-- the part shown
pub record Shown {A : Type 0} (s : List A) (r : Ring) (o : List A) : Type 0 where
  pub bytes : o ≡ run s r
  pub first : o ≡ take (length o) (held s r)

-- several bytes stored, one after the other
pub record Puts {A : Type 0} (s : List A) (r : Ring) (l : List A) (s' : List A) (o : Ring) : Type 0 where
  pub ring : o ≡ puts_ring r l
  pub bytes : s' ≡ puts_bytes s r l
  pub size : length s' ≡ length s

-- ---- of the definitions

-- as many bytes are held as the ring says
abbrev pub HeldLength : Type 0 → Type 0
HeldLength A = (s : List A) (r : Ring) → Fit s r → length (held s r) ≡ r.len

-- no byte dropped leaves the ring
abbrev pub DropNone : Type 0
DropNone = (r : Ring) → Within r → drop_ring r 0 ≡ r

-- n bytes dropped and then m are n + m
abbrev pub DropAgain : Type 0
DropAgain = (r : Ring) (n m : ℕ) → Within r → n + m ≤ r.len → drop_ring (drop_ring r n) m ≡ drop_ring r (n + m)

-- no byte stored, and one stored before the others
abbrev pub PutsNone : Type 0 → Type 0
PutsNone A = (s : List A) (r : Ring) → Puts s r [] s r

abbrev pub PutsMore : {A : Type 0} → List A → Ring → A → List A → List A → List A → Offered → Ring → Ring → Type 0
PutsMore s r b l s₁ s₂ o r₁ r₂ = Put s r b s₁ o → r₁ ≡ unwrap_or o.after r → Puts s₁ r₁ l s₂ r₂ → Puts s r (b ∷ l) s₂ r₂
