-- A write changes its register and no other. Assumes nothing.
use Prim.Native.Nat.{ℕ}
use mathlib.Core.Path.{◌≡◌, refl, sym, ◌∙◌}
use mathlib.Core.Bool.{Bool, true, false, cond, ◌||◌, false≢true}
use mathlib.Core.List.{List, [], ◌∷◌}
use lib.Dec.{eqb}
use borrow.Author.Tests.{eqb-true, ne_eqb}
use Rattle.registers.specs.declared.Registers.{Registers}
use Rattle.registers.specs.Table.{table, has_row}
use Rattle.registers.specs.Writing.{written}
use Rattle.registers.specs.RegistersFit.{Held, held, values, value_in, value_of}

-- the values with that of one number replaced
unfoldable pub replaced : ℕ → ℕ → List Held → List Held
replaced n v [] = []
replaced n v (h ∷ hs) = held h.number (cond (eqb n h.number) v h.value) ∷ replaced n v hs

pub values_written : (g : Registers) (n v : ℕ) → values (written g n v) ≡ replaced n v (values g)
unfolding values written replaced
values_written g n v = refl

other_in : (hs : List Held) (n v k : ℕ) → (n ≡ k → ⊥) → value_in (replaced n v hs) k ≡ value_in hs k
unfolding value_in replaced
other_in [] n v k d = refl
other_in (h ∷ hs) n v k d = rw (other_in hs n v k d) (go (eqb k h.number) refl)
  where
    go : (t : Bool) → eqb k h.number ≡ t →
        cond t (cond (eqb n h.number) v h.value) (value_in hs k) ≡ cond t h.value (value_in hs k)
    go true e = rw (ne_eqb n h.number (λ p. d (p ∙ sym (eqb-true k h.number e))))
    go false e = refl

-- every other register stays
pub written_other : (g : Registers) (n v k : ℕ) → (n ≡ k → ⊥) → value_of (written g n v) k ≡ value_of g k
written_other g n v k d = rw (values_written g n v) (other_in (values g) n v k d)

-- and the one written holds the value
has_number : List Held → ℕ → Bool
has_number [] n = false
has_number (h ∷ hs) n = eqb n h.number || has_number hs n

own_in : (hs : List Held) (n v : ℕ) → has_number hs n ≡ true → value_in (replaced n v hs) n ≡ v
unfolding has_number value_in replaced
own_in [] n v e = absurd (false≢true e)
own_in (h ∷ hs) n v e = go (eqb n h.number) e (λ q. own_in hs n v q)
  where
    go : (t : Bool) → (t || has_number hs n) ≡ true → (has_number hs n ≡ true → value_in (replaced n v hs) n ≡ v) →
        cond t (cond t v h.value) (value_in (replaced n v hs) n) ≡ v
    go true e' f = refl
    go false e' f = f e'

numbers : (g : Registers) (n : ℕ) → has_number (values g) n ≡ has_row table n
unfolding has_number values table has_row
numbers g n = refl

pub written_own : (g : Registers) (n v : ℕ) → has_row table n ≡ true → value_of (written g n v) n ≡ v
written_own g n v e = rw (values_written g n v) (own_in (values g) n v (numbers g n ∙ e))

-- writing a register's own present value changes nothing
same : (g : Registers) (n k old : ℕ) → value_of g k ≡ old → cond (eqb n k) (value_of g n) old ≡ old
same g n k old e = go (eqb n k) refl
  where
    go : (t : Bool) → eqb n k ≡ t → cond t (value_of g n) old ≡ old
    go true q = rw (eqb-true n k q) e
    go false q = refl

pub written_same : (g : Registers) (n : ℕ) → written g n (value_of g n) ≡ g
unfolding written values value_in
written_same g n =
    rw (
      same g n 0 g.r00 refl,
      same g n 1 g.r01 refl,
      same g n 2 g.r02 refl,
      same g n 10 g.r10 refl,
      same g n 11 g.r11 refl,
      same g n 16 g.c00 refl,
      same g n 17 g.c01 refl,
      same g n 18 g.c02 refl,
      same g n 19 g.c03 refl,
      same g n 20 g.c04 refl,
      same g n 21 g.c05 refl,
    )
