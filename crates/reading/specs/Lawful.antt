-- What reading asks of a rule.
use Rattle.std.specs.Prelude.{◌-◌, ◌<◌, ◌≡◌, List, ◌++◌, length, drop}
use Rattle.reading.specs.Reading.{Cut, wait, skip, give}

module _ {A : Type 0} where
  -- rest is what stays of xs when its oldest items are removed
  abbrev pub Suffix : List A → List A → Type 0
  Suffix xs rest = rest ≡ drop (length xs - length rest) xs

  -- the oldest items are removed, one at least
  pub record Oldest (xs rest : List A) : Type 0 where
    pub fewer : length rest < length xs
    pub suffix : Suffix xs rest

module _ {A F : Type 0} where
  -- a cut of xs that decides removes the oldest items
  abbrev pub Removes : List A → Cut A F → Type 0
  Removes xs wait = Unit {0}
  Removes xs (skip r) = Oldest xs r
  Removes xs (give f r) = Oldest xs r

  -- what is decided stays decided: d is the cut c with ys behind
  abbrev pub StaysDecided : List A → Cut A F → Cut A F → Type 0
  StaysDecided ys wait d = Unit {0}
  StaysDecided ys (skip r) d = d ≡ skip (r ++ ys)
  StaysDecided ys (give f r) d = d ≡ give f (r ++ ys)

-- a rule that removes something at each cut, and whose cuts stay right whatever comes after
pub record Lawful {A F : Type 0} (cut : List A → Cut A F) : Type 0 where
  pub removes : (xs : List A) → Removes xs (cut xs)
  pub stays : (xs ys : List A) → StaysDecided ys (cut xs) (cut (xs ++ ys))
