-- What is sent round and comes back, of every machine that is given again what it sent: by the answers and the calls after them, and not by
-- what the machine itself records.
use Rattle.std.specs.Prelude.{Bool, false, cond, ◌||◌, List, [], ◌∷◌}
use Rattle.machine.specs.Course.{Seen, of}

pub record Round (World Call Said Item : Type 0) : Type 0 where
  -- what a call sends round, whether it ends the way of what is under way, and whether it gives this item back unchanged
  pub sent : Call → World → Said → List Item
  pub ends : Call → World → Said → Bool
  pub back : Item → Call → World → Said → Bool

-- the newest of these, else those
abbrev pub newest : {Item : Type 0} → List Item → List Item → List Item
newest [] l = l
newest (g ∷ gs) l = g ∷ []

module _ {World Call Said Item : Type 0} (R : Round World Call Said Item) where
  -- what is under way after a call, where l was before it; at most one
  unfoldable pub under_way : List Item → Call → World → Said → List Item
  under_way l c w a = newest (R.sent c w a) (cond (R.ends c w a) [] l)

  -- what is under way is back unchanged
  abbrev pub is_back : List Item → Call → World → Said → Bool
  is_back [] c w a = false
  is_back (g ∷ gs) c w a = R.back g c w a

  -- in the run something has come back unchanged, what was under way at its start or what was sent in it
  unfoldable pub comes_back : List Item → List (Seen World Call Said) → Bool
  comes_back l [] = false
  comes_back l (s ∷ ss) = of (is_back l) s || comes_back (of (under_way l) s) ss

  -- something was sent in the run and has come back unchanged
  abbrev pub sent_and_back : List (Seen World Call Said) → Bool
  sent_and_back = comes_back []
