-- Reading, whatever the items, the frames and the rule: a rule looks at the oldest items and says what becomes of them.
use Rattle.std.specs.Prelude.{ℕ, zero, suc, List, [], ◌∷◌, length}

-- what becomes of the oldest items, and which items are held after it: they are undecided and wait; some are removed and nothing is
-- sent; some are removed and a frame is sent
pub data Cut (A F : Type 0) : Type 0 where
  wait : Cut A F
  skip : List A → Cut A F
  give : F → List A → Cut A F

-- what one send gives: no frame or one, and the items held after it
pub data Sent (A F : Type 0) : Type 0 where
  none : List A → Sent A F
  one : F → List A → Sent A F

module _ {A F : Type 0} where
  -- the frames of a send
  abbrev pub sent_frames : Sent A F → List F
  sent_frames (none r) = []
  sent_frames (one f r) = f ∷ []

  -- the items held after a send
  abbrev pub sent_rest : Sent A F → List A
  sent_rest (none r) = r
  sent_rest (one f r) = r

-- what a reader makes of the items where the rule waits; and of a frame, the items held after it and what it makes of those
pub record Reader (A F X : Type 0) : Type 0 where
  pub at_wait : List A → X
  pub at_frame : F → List A → X → X

module _ {A F X : Type 0} (reader : Reader A F X) where
  -- what the reader makes of the items xs by their cut, where `later` makes it of the items held after the cut
  abbrev pub by_cut : (List A → X) → List A → Cut A F → X
  by_cut later xs wait = reader.at_wait xs
  by_cut later xs (skip r) = later r
  by_cut later xs (give f r) = reader.at_frame f r (later r)

  -- what the reader makes of the items by k cuts at most
  unfoldable pub in_cuts : (List A → Cut A F) → ℕ → List A → X
  in_cuts cut zero xs = reader.at_wait xs
  in_cuts cut (suc k) xs = by_cut (in_cuts cut k) xs (cut xs)

  -- what it makes of the items by as many cuts as there are: each removes one item at least
  unfoldable pub by_cuts : (List A → Cut A F) → List A → X
  by_cuts cut xs = in_cuts cut (length xs) xs

module _ {A F : Type 0} where
  -- all frames: each before those of the items held after it
  abbrev pub all_frames : Reader A F (List F)
  all_frames = record { at_wait = λ xs. []; at_frame = λ f r later. f ∷ later }

  -- The reading rule, last: a send removes what the rule skips, also where no frame follows, and ends with its frame
  abbrev pub one_send : Reader A F (Sent A F)
  one_send = record { at_wait = none; at_frame = λ f r later. one f r }

  -- what stays when all frames are taken
  abbrev pub undecided : Reader A F (List A)
  undecided = record { at_wait = λ xs. xs; at_frame = λ f r later. later }

module _ {A F : Type 0} (cut : List A → Cut A F) where
  -- all frames that the rule gives for the items
  abbrev pub frames : List A → List F
  frames = by_cuts all_frames cut

  -- what one send gives and what it leaves
  abbrev pub send : List A → Sent A F
  send = by_cuts one_send cut

  -- the items that stay when all frames are taken
  abbrev pub left_over : List A → List A
  left_over = by_cuts undecided cut
