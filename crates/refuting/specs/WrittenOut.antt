-- A run that is written out, call by call: the checker runs one call at a time on a world that is given.
use Rattle.std.specs.Prelude.{◌≡◌, List, [], ◌∷◌}
use Rattle.machine.specs.Course.{Seen}
use Rattle.machine.specs.Machine.{Machine, Law, of_calls, of_runs, of_since, of_between}

-- a call, and what it does
pub record Turn (Call Did : Type 0) : Type 0 where
  pub call : Call
  pub does : Did

abbrev pub turn : {Call Did : Type 0} → Call → Did → Turn Call Did
turn c d = record { call = c; does = d }

abbrev pub called : {Call Did : Type 0} → Turn Call Did → Call
called t = t.call

-- how what a call did is read: its answer and the world after it; and what the types of the code give of a world and of a call
pub record Kind (World Call Said Did : Type 0) : Type 1 where
  pub said : Did → Said
  pub left : Did → World
  pub Fine : World → Type 0
  pub Fair : Call → Type 0

module _ {World Call Said Did : Type 0} (K : Kind World Call Said Did) where
  -- the machine of this kind that does so at every call, in every world
  abbrev pub machine_of : (Call → World → Did) → Machine World Call Said
  machine_of B =
      record {
        Own = World;
        stands = λ w. w;
        answer = λ c w. K.said (B c w);
        after = λ c w. K.left (B c w);
        Fine = K.Fine;
        Fair = K.Fair;
      }

  -- it does so, from the world w
  abbrev pub Does : (Call → World → Did) → World → List (Turn Call Did) → Type 0
  Does B w [] = Unit {0}
  Does B w (t ∷ ts) = (B t.call w ≡ t.does) × Does B (K.left t.does) ts

  -- what is seen of it, and the world that it leaves
  abbrev pub saw : Call → World → Did → Seen World Call Said
  saw c w d = record { call = c; before = w; answer = K.said d; after = K.left d }

  abbrev pub seen_so : World → List (Turn Call Did) → List (Seen World Call Said)
  seen_so w [] = []
  seen_so w (t ∷ ts) = saw t.call w t.does ∷ seen_so (K.left t.does) ts

  abbrev pub left_so : World → List (Turn Call Did) → World
  left_so w [] = w
  left_so w (t ∷ ts) = left_so (K.left t.does) ts

-- ---- what a law says, for each kind of law

module _ {World Call Said : Type 0} where
  -- of a run
  abbrev pub OfRun : Law World Call Said → World → List (Seen World Call Said) → Type 0
  OfRun (of_runs P) w ss = P w ss
  OfRun (of_calls P) w ss = Unit {0}
  OfRun (of_since P) w ss = Unit {0}
  OfRun (of_between P) w ss = Unit {0}

  -- of a call and the run after it
  abbrev pub OfSince : Law World Call Said → Seen World Call Said → List (Seen World Call Said) → Type 0
  OfSince (of_since P) s ss = P s ss
  OfSince (of_calls P) s ss = Unit {0}
  OfSince (of_runs P) s ss = Unit {0}
  OfSince (of_between P) s ss = Unit {0}

  -- of a call, the run after it and a call after that
  abbrev pub OfBetween : Law World Call Said → Seen World Call Said → List (Seen World Call Said) → Seen World Call Said → Type 0
  OfBetween (of_between P) s ss t = P s ss t
  OfBetween (of_calls P) s ss t = Unit {0}
  OfBetween (of_runs P) s ss t = Unit {0}
  OfBetween (of_since P) s ss t = Unit {0}
