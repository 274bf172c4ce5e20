-- The ring of a store by any way of going round, and a law of any store: what its calls give is what the ring by the remainder gives. The
-- stores themselves go round by a comparison; a ring is mostly known by the remainder.
use Rattle.std.specs.Prelude.{ℕ, zero, suc, ◌+◌, ◌-◌, ◌%◌, ◌≤◌, ◌<◌, min, ◌≡◌, Some, None, cond, List, [], ◌∷◌, leb, get_or, set}
use Rattle.store.specs.declared.Ring.{Ring}
use Rattle.store.specs.declared.Offered.{Offered}
use Rattle.store.specs.declared.Stretch.{Stretch}
use Rattle.store.specs.Ring.{Within, Fit, wrap, held}
use Rattle.store.specs.Promises.{Put, Dropped, Spanned, Shown}
use Rattle.cells.specs.Newest.{Replaced}

-- a way of going round: from the number of places of a store, and a place that may be past the last, the place that is meant
abbrev pub GoingRound : Type 0
GoingRound = ℕ → ℕ → ℕ

-- by the remainder
abbrev pub by_remainder : GoingRound
by_remainder cap p = p % cap

-- ---- the ring by a way of going round

-- how many of what is held stand together from the oldest on: all, but none past the last place
abbrev pub together : Ring → ℕ
together r = min r.len (r.cap - r.oldest)

-- what a byte offered is answered: the ring after it, none where it is not stored, and the room that is left; the place of the oldest stays
abbrev pub offered : Ring → Offered
offered r =
    cond (leb r.cap r.len)
    (record { after = None; room = 0 })
    (record { after = Some (record { cap = r.cap; oldest = r.oldest; len = r.len + 1 }); room = r.cap - (r.len + 1) })

module _ (g : GoingRound) where
  -- the place of the k-th oldest byte, from 0, and of the next one where k are held
  abbrev pub place_by : Ring → ℕ → ℕ
  place_by r k = g r.cap (r.oldest + k)

  -- a byte stored behind the newest, unless the store is full
  abbrev pub put_by : List ℕ → Ring → ℕ → List ℕ
  put_by s r b = cond (leb r.cap r.len) s (set s (place_by r r.len) b)

  -- the newest byte written again
  abbrev pub replace_by : List ℕ → Ring → ℕ → List ℕ
  replace_by s r b = set s (place_by r (r.len - 1)) b

  -- the k-th oldest byte
  abbrev pub look_by : List ℕ → Ring → ℕ → ℕ
  look_by s r k = get_or s (place_by r k) 0

  -- the n oldest bytes dropped
  abbrev pub drop_by : Ring → ℕ → Ring
  drop_by r n = record { cap = r.cap; oldest = place_by r n; len = r.len - n }

  -- n bytes one after the other, from the k-th oldest on
  unfoldable pub bytes_by : List ℕ → Ring → ℕ → ℕ → List ℕ
  bytes_by s r k zero = []
  bytes_by s r k (suc n) = look_by s r k ∷ bytes_by s r (suc k) n

-- ---- any store

-- by what its calls may give: the place of the k-th oldest, what a put leaves and answers, what the newest written again leaves, what a look
-- answers, the ring that a drop leaves, the places of the part that is shown, and the part
pub record Giving : Type 1 where
  pub Place : Ring → ℕ → ℕ → Type 0
  pub Puts : List ℕ → Ring → ℕ → List ℕ → Offered → Type 0
  pub Replaces : List ℕ → Ring → ℕ → List ℕ → Type 0
  pub Looks : List ℕ → Ring → ℕ → ℕ → Type 0
  pub Drops : Ring → ℕ → Ring → Type 0
  pub Spans : Ring → Stretch → Type 0
  pub Shows : List ℕ → Ring → List ℕ → Type 0

-- the law, wherever a call may be made: in a ring within its capacity, whose list has as many places, and of bytes that are held. Nothing is
-- given but what the ring by the remainder gives
pub record AsByRemainder (S : Giving) : Type 0 where
  pub place : (r : Ring) (k o : ℕ) → Within r → k ≤ r.len → S.Place r k o → o ≡ place_by by_remainder r k
  pub put : (s : List ℕ) (r : Ring) (b : ℕ) (o : List ℕ) (a : Offered) → Fit s r → S.Puts s r b o a → (o ≡ put_by by_remainder s r b) × (a ≡ offered r)
  pub replaced : (s : List ℕ) (r : Ring) (b : ℕ) (o : List ℕ) → Fit s r → 0 < r.len → S.Replaces s r b o → o ≡ replace_by by_remainder s r b
  pub look : (s : List ℕ) (r : Ring) (k o : ℕ) → Fit s r → k < r.len → S.Looks s r k o → o ≡ look_by by_remainder s r k
  pub dropped : (r : Ring) (n : ℕ) (o : Ring) → Within r → n ≤ r.len → S.Drops r n o → o ≡ drop_by by_remainder r n
  pub span : (r : Ring) (o : Stretch) → Within r → S.Spans r o → (o.start ≡ place_by by_remainder r 0) × (o.end ≡ o.start + together r)
  pub show : (s : List ℕ) (r : Ring) (o : List ℕ) → Fit s r → S.Shows s r o → o ≡ bytes_by by_remainder s r 0 (together r)

-- and all that it gives is given, so that no call is left without an answer
pub record AllByRemainder (S : Giving) : Type 0 where
  pub place : (r : Ring) (k : ℕ) → Within r → k ≤ r.len → S.Place r k (place_by by_remainder r k)
  pub put : (s : List ℕ) (r : Ring) (b : ℕ) → Fit s r → S.Puts s r b (put_by by_remainder s r b) (offered r)
  pub replaced : (s : List ℕ) (r : Ring) (b : ℕ) → Fit s r → 0 < r.len → S.Replaces s r b (replace_by by_remainder s r b)
  pub look : (s : List ℕ) (r : Ring) (k : ℕ) → Fit s r → k < r.len → S.Looks s r k (look_by by_remainder s r k)
  pub dropped : (r : Ring) (n : ℕ) → Within r → n ≤ r.len → S.Drops r n (drop_by by_remainder r n)
  pub span : (r : Ring) → Within r → S.Spans r (record { start = place_by by_remainder r 0; end = place_by by_remainder r 0 + together r })
  pub show : (s : List ℕ) (r : Ring) → Fit s r → S.Shows s r (bytes_by by_remainder s r 0 (together r))

-- ---- ours

-- the stores of bytes and of cells, by the contracts of their calls
abbrev pub promised : Giving
promised =
    record {
      Place = λ r k o. o ≡ wrap r.cap (r.oldest + k);
      Puts = Put;
      Replaces = Replaced;
      Looks = λ s r k o. o ≡ get_or (held s r) k 0;
      Drops = Dropped;
      Spans = Spanned;
      Shows = Shown;
    }

-- what a store holds, which laws speak of, is what the ring by the remainder holds
abbrev pub HeldByRemainder : Type 0
HeldByRemainder = (s : List ℕ) (r : Ring) → Fit s r → held s r ≡ bytes_by by_remainder s r 0 r.len
