-- What the table says of a number that has a row, and of one that has none. Assumes nothing.
use Prim.Native.Nat.{ℕ, ◌≤◌, ◌<◌}
use native.Mathlib.Omega.{arith}
use mathlib.Core.Path.{◌≡◌, refl}
use mathlib.Core.Bool.{Bool, true, false, cond, ◌&&◌, ◌||◌, not}
use mathlib.Core.List.Memᴰ
use mathlib.Core.List.{List, [], ◌∷◌, Memᴰ}
use mathlib.Core.Logic.{⊎_elim}
use lib.Dec.{eqb, ltb, leb}
use borrow.Author.Tests.{eqb-true, ne_eqb, ltb-true, leb-true}
use Rattle.branches.proofs.Branches.{and_left, and_right}
use Rattle.registers.specs.Table.{nothing, Row, table, row_in, has_row, carried_of, start_of, start_registers}
use Rattle.registers.specs.RegistersFit.{values, value_in, value_of}

-- a test that every row passes
every : (Row → Bool) → List Row → Bool
every f [] = true
every f (r ∷ rs) = f r && every f rs

member : (f : Row → Bool) (rs : List Row) → every f rs ≡ true → (r : Row) → Memᴰ r rs → f r ≡ true
unfolding every
member f [] e r m = absurd (Memᴰ.not-nil m)
member f (x ∷ rs) e r m =
    ⊎_elim (λ p. rw p (and_left (f x) (every f rs) e)) (λ l. member f rs (and_right (f x) (every f rs) e) r l) (Memᴰ.cases_cons m)

-- the row of a number is found, and is the only one
pub row_carried : (r : Row) → Memᴰ r table → carried_of r.number ≡ r.carries
unfolding every table row_in carried_of
row_carried r m = eqb-true (carried_of r.number) r.carries (member (λ (x : Row). eqb (carried_of x.number) x.carries) table refl r m)

pub row_carries : (r : Row) → Memᴰ r table → 0 < r.carries
unfolding every table
row_carries r m = leb-true 1 r.carries (member (λ (x : Row). leb 1 x.carries) table refl r m)

pub row_start : (r : Row) → Memᴰ r table → start_of r.number ≡ r.start
unfolding every table row_in start_of
row_start r m = eqb-true (start_of r.number) r.start (member (λ (x : Row). eqb (start_of x.number) x.start) table refl r m)

-- and the register of that number starts so
pub start_held : (r : Row) → Memᴰ r table → value_of start_registers r.number ≡ r.start
unfolding every table row_in start_of start_registers values value_in
start_held r m =
    eqb-true (value_of start_registers r.number) r.start
    (member (λ (x : Row). eqb (value_of start_registers x.number) x.start) table refl r m)

-- a number carries nothing exactly where it has no row
test_in : (rs : List Row) → every (λ (x : Row). leb 1 x.carries) rs ≡ true → (n : ℕ) → eqb (row_in rs n).carries nothing ≡ not (has_row rs n)
unfolding every row_in has_row
test_in [] e n = refl
test_in (r ∷ rs) e n = go (eqb n r.number) (leb-true 1 r.carries (and_left _ _ e)) (test_in rs (and_right (leb 1 r.carries) _ e) n)
  where
    go : (t : Bool) → 0 < r.carries → eqb (row_in rs n).carries nothing ≡ not (has_row rs n) →
        eqb (cond t r (row_in rs n)).carries nothing ≡ not (t || has_row rs n)
    go true h f = ne_eqb r.carries nothing (λ q. omega arith)
    go false h f = f

pub test_row : (n : ℕ) → eqb (carried_of n) nothing ≡ not (has_row table n)
unfolding every table carried_of
test_row n = test_in table refl n

pub none_carried : (n : ℕ) → has_row table n ≡ false → carried_of n ≡ nothing
none_carried n e = eqb-true (carried_of n) nothing (rw (test_row n, e))

-- no row has a number above all those of the table
past_in : (b n : ℕ) → b ≤ n → (rs : List Row) → every (λ (x : Row). ltb x.number b) rs ≡ true → has_row rs n ≡ false
unfolding every has_row
past_in b n h [] e = refl
past_in b n h (r ∷ rs) e =
    let l = ltb-true r.number b (and_left _ _ e) in
    rw (ne_eqb n r.number (λ q. omega arith)) (past_in b n h rs (and_right (ltb r.number b) _ e))

pub past_rows : (n : ℕ) → 22 ≤ n → has_row table n ≡ false
unfolding every table
past_rows n h = past_in 22 n h table refl
