-- Each byte and break is read by its own rule. Assumes nothing.
use Prim.Native.Nat.{ℕ}
use mathlib.Core.Path.{◌≡◌, refl, sym, ap, ◌∙◌}
use mathlib.Core.Bool.{Bool, true, false, beq, true≢false}
use mathlib.Core.List.{List, [], ◌∷◌, ◌++◌, append-nil, append_assoc}
use lib.Dec.{eqb}
use borrow.Author.Tests.{eqb-true, eq-eqb}
use Rattle.branches.proofs.Branches.{and_left, and_right, cond_true, cond_false, by_cond}
use Rattle.reading.specs.declared.Rule.{Rule}
use Rattle.reading.specs.Reading.{in_cuts, by_cuts, frames}
use Rattle.reading.specs.Received.{Received}
use Rattle.reading.specs.Steps.{cut}
use Rattle.reading.proofs.Walls.{walled}
use Rattle.laws.specs.ByRules.{Ruled, ruled, all_ruled, same_rule, Stretch, stretch, joined, stretches, read_each, read_with, wall, by_rules, EachByItsRule}

-- ---- rules that are one

same_bool : (a b : Bool) → beq a b ≡ true → a ≡ b
same_bool true true e = refl
same_bool false false e = refl
same_bool true false e = absurd (true≢false (sym e))
same_bool false true e = absurd (true≢false (sym e))

own_bool : (a : Bool) → beq a a ≡ true
own_bool true = refl
own_bool false = refl

same_rule_lem : (q r : Rule) → same_rule q r ≡ true → q ≡ r
same_rule_lem q r e =
    let on = same_bool q.on r.on (and_left _ _ e) in
    let rest = and_right (beq q.on r.on) _ e in
    let c00 = eqb-true q.c00 r.c00 (and_left _ _ rest) in
    let c01 = eqb-true q.c01 r.c01 (and_right (eqb q.c00 r.c00) _ rest) in
    λ i. record { on = on i; c00 = c00 i; c01 = c01 i }

own_rule : (r : Rule) → same_rule r r ≡ true
own_rule r = rw (own_bool r.on, eq-eqb r.c00 r.c00 refl, eq-eqb r.c01 r.c01 refl)

-- ---- a stretch more

module _ (r : Rule) where
  -- all of these before what stands in stretches
  all_joined : List Received → List Stretch → List Stretch
  all_joined [] ss = ss
  all_joined (x ∷ xs) ss = joined (ruled r x) (all_joined xs ss)

  stretches_joined : (xs : List Received) (ys : List Ruled) → stretches (all_ruled r xs ++ ys) ≡ all_joined xs (stretches ys)
  unfolding stretches all_joined
  stretches_joined [] ys = refl
  stretches_joined (x ∷ xs) ys = ap (joined (ruled r x)) (stretches_joined xs ys)

  -- with none behind them they are one
  joined_alone : (x : Received) (xs : List Received) → all_joined (x ∷ xs) [] ≡ stretch r (x ∷ xs) ∷ []
  unfolding joined all_joined
  joined_alone x [] = refl
  joined_alone x (y ∷ xs) = ap (joined (ruled r x)) (joined_alone y xs) ∙ cond_true (same_rule r r) _ _ (own_rule r)

  module _ (s : Stretch) (ss : List Stretch) where
    -- the first behind them is of the same rule
    joined_same : (xs : List Received) → same_rule r s.rule ≡ true → all_joined xs (s ∷ ss) ≡ stretch s.rule (xs ++ s.items) ∷ ss
    unfolding joined all_joined
    joined_same [] e = refl
    joined_same (x ∷ xs) e = ap (joined (ruled r x)) (joined_same xs e) ∙ cond_true (same_rule r s.rule) _ _ e

    -- or of another
    joined_other : (x : Received) (xs : List Received) → same_rule r s.rule ≡ false → all_joined (x ∷ xs) (s ∷ ss) ≡ stretch r (x ∷ xs) ∷ s ∷ ss
    unfolding joined all_joined
    joined_other x [] e = cond_false (same_rule r s.rule) _ _ e
    joined_other x (y ∷ xs) e = ap (joined (ruled r x)) (joined_other y xs e) ∙ cond_true (same_rule r r) _ _ (own_rule r)

-- ---- what stands behind, as one rule sees it

-- what may stand between two stretches: no rule gives a frame for it alone
abbrev pub Silent : List Received → Type 0
Silent between = (r : Rule) → frames (cut r) between ≡ []

pub wall_silent : Silent wall
unfolding by_cuts in_cuts
wall_silent r = (walled r).first []

pub none_silent : Silent []
unfolding by_cuts in_cuts
none_silent r = refl

-- whatever of one rule stands before: it is read with these behind it, and then come those frames
pub record Behind (between : List Received) (r : Rule) (ys : List Ruled) : Type 0 where
  pub items : List Received
  pub later : List ℕ
  pub reads : (xs : List Received) → read_with between (all_ruled r xs ++ ys) ≡ frames (cut r) (xs ++ items) ++ later

module _ (between : List Received) (silent : Silent between) (r : Rule) where
  read_other : (xs : List Received) (s : Stretch) (ss : List Stretch) → same_rule r s.rule ≡ false →
      read_each between (all_joined r xs (s ∷ ss)) ≡ frames (cut r) (xs ++ between) ++ read_each between (s ∷ ss)
  unfolding read_each all_joined
  read_other [] s ss e = ap (λ (l : List ℕ). l ++ read_each between (s ∷ ss)) (sym (silent r))
  read_other (x ∷ xs) s ss e = ap (read_each between) (joined_other r s ss x xs e)

  read_alone : (xs : List Received) → read_each between (all_joined r xs []) ≡ frames (cut r) xs
  unfolding read_each all_joined by_cuts in_cuts
  read_alone [] = refl
  read_alone (x ∷ xs) = ap (read_each between) (joined_alone r x xs)

  read_same : (xs : List Received) (s : Stretch) (ss : List Stretch) → same_rule r s.rule ≡ true →
      read_each between (all_joined r xs (s ∷ ss)) ≡ read_each between (stretch r (xs ++ s.items) ∷ ss)
  read_same xs s ss e =
      ap (read_each between) (joined_same r s ss xs e ∙ ap (λ (q : Rule). stretch q (xs ++ s.items) ∷ ss) (sym (same_rule_lem r s.rule e)))

  -- by the stretches behind
  record Known (ss : List Stretch) : Type 0 where
    items : List Received
    later : List ℕ
    reads : (xs : List Received) → read_each between (all_joined r xs ss) ≡ frames (cut r) (xs ++ items) ++ later

  known : (ss : List Stretch) → Known ss
  unfolding read_each
  known [] = record { items = []; later = []; reads = λ xs. read_alone xs ∙ ap (frames (cut r)) (sym (append-nil xs)) ∙ sym (append-nil _) }
  known (s ∷ ss) = by_rule (same_rule r s.rule) refl ss
    where
      one : same_rule r s.rule ≡ true → (ss : List Stretch) → Known (s ∷ ss)
      one e [] = record { items = s.items; later = []; reads = λ xs. read_same xs s [] e ∙ sym (append-nil _) }
      one e (t ∷ ts) =
          record {
            items = s.items ++ between;
            later = read_each between (t ∷ ts);
            reads =
                λ xs. read_same xs s (t ∷ ts) e ∙ ap (λ (l : List Received). frames (cut r) l ++ read_each between (t ∷ ts)) (append_assoc xs s.items between);
          }

      by_rule : (t : Bool) → same_rule r s.rule ≡ t → (ss : List Stretch) → Known (s ∷ ss)
      by_rule true e ss = one e ss
      by_rule false e ss = record { items = between; later = read_each between (s ∷ ss); reads = λ xs. read_other xs s ss e }

  pub behind : (ys : List Ruled) → Behind between r ys
  behind ys =
      let k = known (stretches ys) in
      record { items = k.items; later = k.later; reads = λ xs. ap (read_each between) (stretches_joined r xs ys) ∙ k.reads xs }

  -- where all are of one rule
  pub one_rule : (xs : List Received) → read_with between (all_ruled r xs) ≡ frames (cut r) xs
  unfolding stretches
  one_rule xs = ap (read_with between) (sym (append-nil (all_ruled r xs))) ∙ ap (read_each between) (stretches_joined r xs []) ∙ read_alone xs

-- ---- where the rule changes

module _ (r : Rule) (xs : List Received) (y : Ruled) (other : same_rule r y.rule ≡ false) where
  abbrev Apart : List Stretch → Type 0
  Apart ss = read_each wall (all_joined r xs ss) ≡ frames (cut r) (xs ++ wall) ++ read_each wall ss

  joined_apart : (ss : List Stretch) → Apart (joined y ss)
  unfolding joined
  joined_apart [] = read_other wall wall_silent r xs _ [] other
  joined_apart (s ∷ ss) =
      by_cond Apart (same_rule y.rule s.rule) _ _
      (λ e. read_other wall wall_silent r xs _ ss (ap (same_rule r) (sym (same_rule_lem y.rule s.rule e)) ∙ other))
      (λ e. read_other wall wall_silent r xs _ (s ∷ ss) other)

  rule_changes : (ys : List Ruled) → by_rules (all_ruled r xs ++ (y ∷ ys)) ≡ frames (cut r) (xs ++ wall) ++ by_rules (y ∷ ys)
  unfolding stretches
  rule_changes ys = ap (read_each wall) (stretches_joined r xs (y ∷ ys)) ∙ joined_apart (stretches ys)

pub each_by_its_rule : EachByItsRule
each_by_its_rule = record { one = one_rule wall wall_silent; change = λ r xs y ys e. rule_changes r xs y e ys }
