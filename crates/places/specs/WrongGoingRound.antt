-- Ways of going round that are wrong, each for some length of a store, and stores that go round so or do not answer.
use Rattle.std.specs.Prelude.{◌+◌, ◌-◌, ◌%◌, ◌<◌, ◌≡◌, cond, ◌&&◌, eqb, leb, ltb, set}
use Rattle.std.specs.Int.Bits.{bit_and}
use Rattle.places.specs.GoingRound.{GoingRound, by_remainder, Giving, together, offered, place_by, put_by, replace_by, look_by, drop_by, bytes_by}

-- one place late: the place past the last is taken for one of the store
abbrev pub late : GoingRound
late cap p = cond (ltb cap p) (p - cap) p

-- by a mask, which is right where the length is a power of two
abbrev pub masked : GoingRound
masked cap p = bit_and p (cap - 1)

-- to the second place, so that the first is not used again
abbrev pub to_the_second : GoingRound
to_the_second cap p = cond (leb cap p) (p - cap + 1) p

-- by equality: right where places come one by one, wrong where two or three are dropped across the end
abbrev pub by_equality : GoingRound
by_equality cap p = cond (eqb p cap) 0 p

-- by a comparison of numbers of 16 bits with a sign, which is right up to 16,384 places
abbrev pub signed : GoingRound
signed cap p = cond (leb cap p && ltb p 32768) (p - cap) p

-- at the largest length that a store may have, whatever length this one has
abbrev pub at_the_largest : GoingRound
at_the_largest cap p = p % 32768

-- ---- stores

-- a store that goes round in one way, and in another where it drops
abbrev pub store_by : GoingRound → GoingRound → Giving
store_by g h =
    record {
      Place = λ r k o. o ≡ place_by g r k;
      Puts = λ s r b o a. (o ≡ put_by g s r b) × (a ≡ offered r);
      Replaces = λ s r b o. o ≡ replace_by g s r b;
      Looks = λ s r k o. o ≡ look_by g s r k;
      Drops = λ r n o. o ≡ drop_by h r n;
      Spans = λ r o. (o.start ≡ place_by g r 0) × (o.end ≡ o.start + together r);
      Shows = λ s r o. o ≡ bytes_by g s r 0 (together r);
    }

-- a store that goes round in one way throughout
abbrev pub going_by : GoingRound → Giving
going_by g = store_by g g

-- right in all but its drop
abbrev pub drops_by_equality : Giving
drops_by_equality = store_by by_remainder by_equality

-- right in all but the newest written again, which it takes for the oldest
abbrev pub replaces_the_oldest : Giving
replaces_the_oldest =
    record {
      Place = (going_by by_remainder).Place;
      Puts = (going_by by_remainder).Puts;
      Replaces = λ s r b o. o ≡ set s (place_by by_remainder r 0) b;
      Looks = (going_by by_remainder).Looks;
      Drops = (going_by by_remainder).Drops;
      Spans = (going_by by_remainder).Spans;
      Shows = (going_by by_remainder).Shows;
    }

-- gives nothing at all
abbrev pub silent : Giving
silent =
    record {
      Place = λ r k o. ⊥;
      Puts = λ s r b o a. ⊥;
      Replaces = λ s r b o. ⊥;
      Looks = λ s r k o. ⊥;
      Drops = λ r n o. ⊥;
      Spans = λ r o. ⊥;
      Shows = λ s r o. ⊥;
    }

-- right as far as it goes, and answers no more where a drop comes round
abbrev pub stops_at_the_end : Giving
stops_at_the_end =
    record {
      Place = (going_by by_remainder).Place;
      Puts = (going_by by_remainder).Puts;
      Replaces = (going_by by_remainder).Replaces;
      Looks = (going_by by_remainder).Looks;
      Drops = λ r n o. (o ≡ drop_by by_remainder r n) × (r.oldest + n < r.cap);
      Spans = (going_by by_remainder).Spans;
      Shows = (going_by by_remainder).Shows;
    }
