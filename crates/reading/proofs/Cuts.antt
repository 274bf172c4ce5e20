-- Reading by a lawful rule, one cut at a time: the number of cuts allowed does not matter.
-- Assumes nothing.
use Prim.Native.Nat.{ℕ, zero, suc, ◌≤◌, ◌<◌}
use native.Mathlib.Omega.{arith}
use mathlib.Core.Path.{◌≡◌, refl, sym, ap, subst, ◌∙◌}
use mathlib.Core.List.{List, ◌++◌}
use lib.ListN.{length}
use Rattle.reading.specs.Reading.{Cut, wait, skip, give, Reader, by_cut, in_cuts, by_cuts}
use Rattle.reading.specs.Lawful.{Oldest, Removes, StaysDecided, Lawful}

module _ {A F : Type 0} (cut : List A → Cut A F) (L : Lawful cut) where
  -- what a decided cut removes
  pub skip_oldest : (xs r : List A) → cut xs ≡ skip r → Oldest xs r
  skip_oldest xs r e = subst (Removes xs) e (L.removes xs)

  pub give_oldest : (xs : List A) (f : F) (r : List A) → cut xs ≡ give f r → Oldest xs r
  give_oldest xs f r e = subst (Removes xs) e (L.removes xs)

  -- a decided cut with ys behind
  pub skip_stays : (xs r ys : List A) → cut xs ≡ skip r → cut (xs ++ ys) ≡ skip (r ++ ys)
  skip_stays xs r ys e = subst (λ c. StaysDecided ys c (cut (xs ++ ys))) e (L.stays xs ys)

  pub give_stays : (xs : List A) (f : F) (r ys : List A) → cut xs ≡ give f r → cut (xs ++ ys) ≡ give f (r ++ ys)
  give_stays xs f r ys e = subst (λ c. StaysDecided ys c (cut (xs ++ ys))) e (L.stays xs ys)

  module _ {X : Type 0} (reader : Reader A F X) where
    -- a cut asks for what is made of shorter lists only
    later_same : (f g : List A → X) (xs : List A) → ((r : List A) → length r < length xs → f r ≡ g r) →
        by_cut reader f xs (cut xs) ≡ by_cut reader g xs (cut xs)
    later_same f g xs same = go (cut xs) refl
      where
        go : (c : Cut A F) → cut xs ≡ c → by_cut reader f xs c ≡ by_cut reader g xs c
        go wait e = refl
        go (skip r) e = same r (skip_oldest xs r e).fewer
        go (give a r) e = ap (reader.at_frame a r) (same r (give_oldest xs a r e).fewer)

    -- where there are no items the rule waits
    at_end : (f : List A → X) (xs : List A) → length xs ≤ 0 → by_cut reader f xs (cut xs) ≡ reader.at_wait xs
    at_end f xs h = go (cut xs) refl
      where
        go : (c : Cut A F) → cut xs ≡ c → by_cut reader f xs c ≡ reader.at_wait xs
        go wait e = refl
        go (skip r) e = absurd (omega (arith, (skip_oldest xs r e).fewer))
        go (give a r) e = absurd (omega (arith, (give_oldest xs a r e).fewer))

    -- with cuts enough, their number does not matter
    pub enough : (k j : ℕ) (xs : List A) → length xs ≤ k → length xs ≤ j → in_cuts reader cut k xs ≡ in_cuts reader cut j xs
    unfolding in_cuts
    enough zero zero xs h g = refl
    enough zero (suc j) xs h g = sym (at_end (in_cuts reader cut j) xs h)
    enough (suc k) zero xs h g = at_end (in_cuts reader cut k) xs g
    enough (suc k) (suc j) xs h g = later_same (in_cuts reader cut k) (in_cuts reader cut j) xs (λ r l. enough k j r (omega arith) (omega arith))

    -- one cut, and then the items held after it
    pub cut_once : (xs : List A) → by_cuts reader cut xs ≡ by_cut reader (by_cuts reader cut) xs (cut xs)
    unfolding by_cuts in_cuts
    cut_once xs =
        enough (length xs) (suc (length xs)) xs (omega arith) (omega arith) ∙
        later_same (in_cuts reader cut (length xs)) (by_cuts reader cut) xs (λ r l. enough (length xs) (length r) r (omega arith) (omega arith))

    -- the same where the cut is known
    pub at_cut : (xs : List A) (c : Cut A F) → cut xs ≡ c → by_cuts reader cut xs ≡ by_cut reader (by_cuts reader cut) xs c
    at_cut xs c e = cut_once xs ∙ ap (by_cut reader (by_cuts reader cut) xs) e

  -- what holds of the items that wait, and of others if it holds of those held after their cut, holds of all
  pub by_cuts_lem : (P : List A → Type 0) → ((xs : List A) → cut xs ≡ wait → P xs) → ((xs r : List A) → cut xs ≡ skip r → P r → P xs) →
      ((xs : List A) (f : F) (r : List A) → cut xs ≡ give f r → P r → P xs) → (xs : List A) → P xs
  by_cuts_lem P waits skips gives xs = within (suc (length xs)) xs (omega arith)
    where
      within : (k : ℕ) (xs : List A) → length xs < k → P xs
      within zero xs h = absurd (omega arith)
      within (suc k) xs h = go (within k) (cut xs) refl
        where
          go : ((r : List A) → length r < k → P r) → (c : Cut A F) → cut xs ≡ c → P xs
          go ih wait e = waits xs e
          go ih (skip r) e = skips xs r e (ih r (omega (arith, (skip_oldest xs r e).fewer)))
          go ih (give f r) e = gives xs f r e (ih r (omega (arith, (give_oldest xs f r e).fewer)))
