-- Reading bytes and breaks of which each has the rule that was in force when it was accepted.
use Rattle.std.specs.Prelude.{ℕ, ◌≡◌, Bool, false, cond, ◌&&◌, List, [], ◌∷◌, ◌++◌, map, eqb}
use Rattle.std.specs.Bool.{beq}
use Rattle.reading.specs.declared.Rule.{Rule}
use Rattle.reading.specs.Reading.{frames}
use Rattle.reading.specs.Received.{Received, a_break}
use Rattle.reading.specs.Steps.{cut}

-- a byte or a break, and its rule
pub record Ruled : Type 0 where
  pub rule : Rule
  pub item : Received

abbrev pub ruled : Rule → Received → Ruled
ruled r x = record { rule = r; item = x }

-- these, all of one rule
abbrev pub all_ruled : Rule → List Received → List Ruled
all_ruled r xs = map (ruled r) xs

-- two rules are one: both on or both off, with the same C00 and C01
abbrev pub same_rule : Rule → Rule → Bool
same_rule q r = beq q.on r.on && (eqb q.c00 r.c00 && eqb q.c01 r.c01)

-- what was accepted one after the other under one rule
pub record Stretch : Type 0 where
  pub rule : Rule
  pub items : List Received

abbrev pub stretch : Rule → List Received → Stretch
stretch r xs = record { rule = r; items = xs }

-- one more, before these stretches: it is of the first of them where the rule is the same
unfoldable pub joined : Ruled → List Stretch → List Stretch
joined x [] = stretch x.rule (x.item ∷ []) ∷ []
joined x (s ∷ ss) = cond (same_rule x.rule s.rule) (stretch s.rule (x.item ∷ s.items) ∷ ss) (stretch x.rule (x.item ∷ []) ∷ s ∷ ss)

unfoldable pub stretches : List Ruled → List Stretch
stretches [] = []
stretches (x ∷ xs) = joined x (stretches xs)

-- each stretch is read by its own rule, where this stands behind one that another follows
unfoldable pub read_each : List Received → List Stretch → List ℕ
read_each between [] = []
read_each between (s ∷ []) = frames (cut s.rule) s.items
read_each between (s ∷ t ∷ ss) = frames (cut s.rule) (s.items ++ between) ++ read_each between (t ∷ ss)

abbrev pub read_with : List Received → List Ruled → List ℕ
read_with between xs = read_each between (stretches xs)

-- the frames, each byte read by its rule: a change of the rule is a wall, as a break is, so that nothing is put together across it and nothing
-- before it waits or is left out
abbrev pub wall : List Received
wall = a_break ∷ []

abbrev pub by_rules : List Ruled → List ℕ
by_rules = read_with wall

-- the same without a wall, where what waits for more is left out
abbrev pub by_rules_alone : List Ruled → List ℕ
by_rules_alone = read_with []

-- what reading by rules comes to
pub record EachByItsRule : Type 0 where
  -- where all are of one rule, it is what that rule gives
  pub one : (r : Rule) (xs : List Received) → by_rules (all_ruled r xs) ≡ frames (cut r) xs
  -- where the rule changes, what stands before is read as before a break, and what stands behind as if nothing had been
  pub change : (r : Rule) (xs : List Received) (y : Ruled) (ys : List Ruled) → same_rule r y.rule ≡ false →
      by_rules (all_ruled r xs ++ (y ∷ ys)) ≡ frames (cut r) (xs ++ wall) ++ by_rules (y ∷ ys)
