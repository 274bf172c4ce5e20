-- What the code's word for what a register carries says of the table's number. Assumes nothing.
use Prim.Native.Nat.{ℕ, zero, suc, ◌+◌, ◌-◌, ◌/◌, ◌%◌, ◌≤◌, ◌<◌}
use native.Mathlib.Omega.{arith}
use mathlib.Core.Path.{◌≡◌, refl, sym, ap}
use mathlib.Core.Bool.{Bool, true, false, cond, not, ◌&&◌, ◌||◌}
use lib.Dec.{eqb, ltb}
use borrow.Author.Tests.{eqb-true, eqb-false, ltb-false, eq-eqb, ne_eqb}
use Rattle.std.specs.Prelude.{Option, Some, None}
use Rattle.registers.specs.declared.Contents.{Contents}
use Rattle.registers.specs.declared.Contents.TheVariants.{Bits, Character}
use Rattle.registers.specs.Table.{table, row_in, has_row, carried_of, carries}
use Rattle.registers.specs.Bits.{too_large, bit_not_carried, in_range}
use Rattle.registers.proofs.Rows.{none_carried}

pub character_is : (n : ℕ) → Some Character ≡ carries n → n ≡ 16
unfolding carries
character_is n = go (eqb n 0) (eqb n 16) (eqb-true n 16)
  where
    go : (s t : Bool) → (t ≡ true → n ≡ 16) → Some Character ≡ cond s None (cond t (Some Character) (Some (Bits n))) → n ≡ 16
    go true t f e = absurd (cc)
    go false true f e = f refl
    go false false f e = absurd (cc)

pub bits_are : (n b : ℕ) → Some (Bits b) ≡ carries n → (n ≡ b) × (eqb n 16 ≡ false)
unfolding carries
bits_are n b = go (eqb n 0) (eqb n 16)
  where
    go : (s t : Bool) → Some (Bits b) ≡ cond s None (cond t (Some Character) (Some (Bits n))) → (n ≡ b) × (t ≡ false)
    go true t e = absurd (cc)
    go false true e = absurd (cc)
    go false false e = (cc, refl)

pub none_is : (n : ℕ) → None ≡ carries n → n ≡ 0
unfolding carries
none_is n = go (eqb n 0) (eqb n 16) (eqb-true n 0)
  where
    go : (s t : Bool) → (s ≡ true → n ≡ 0) → None ≡ cond s None (cond t (Some Character) (Some (Bits n))) → n ≡ 0
    go true t f e = f refl
    go false true f e = absurd (cc)
    go false false f e = absurd (cc)

pub some_is : (n : ℕ) (k : Contents) → Some k ≡ carries n → n ≡ 0 → ⊥
unfolding carries
some_is n k e z = go (eqb n 0) (eqb n 16) (eq-eqb n 0 z) e
  where
    go : (s t : Bool) → s ≡ true → Some k ≡ cond s None (cond t (Some Character) (Some (Bits n))) → ⊥
    go true t f e = absurd (cc)
    go false t f e = absurd (cc)

place : (k : ℕ) → k < 6 → carried_of (16 + k) ≡ 16
unfolding table row_in carried_of
place zero h = refl
place (suc zero) h = refl
place (suc (suc zero)) h = refl
place (suc (suc (suc zero))) h = refl
place (suc (suc (suc (suc zero)))) h = refl
place (suc (suc (suc (suc (suc zero))))) h = refl
place (suc (suc (suc (suc (suc (suc k)))))) h = absurd (omega (arith, h))

pub character_carried : (n : ℕ) → 16 ≤ n → n ≤ 21 → Some Character ≡ carries (carried_of n)
unfolding carries
character_carried n l h = let e : 16 + (n - 16) ≡ n = omega arith in rw (sym e) (rw (place (n - 16) (omega arith)))

-- no number from 1 to 15 has all of its four bits off
module _ (x : ℕ) (some : x ≡ 0 → ⊥) where
  no_bit : (a b c d e : Bool) → ltb 15 x ≡ a → eqb (x / 1 % 2) 1 ≡ b → eqb (x / 2 % 2) 1 ≡ c → eqb (x / 4 % 2) 1 ≡ d → eqb (x / 8 % 2) 1 ≡ e →
      false ≡ (not a && not (((b && true) || (c && true)) || (d && true) || (e && true)))
  no_bit true b c d e p q r s t = refl
  no_bit false true c d e p q r s t = refl
  no_bit false false true d e p q r s t = refl
  no_bit false false false true e p q r s t = refl
  no_bit false false false false true p q r s t = refl
  no_bit false false false false false p q r s t =
      let l = ltb-false 15 x p in
      let m = eqb-false (x / 1 % 2) 1 q in
      let n = eqb-false (x / 2 % 2) 1 r in
      let o = eqb-false (x / 4 % 2) 1 s in
      let u = eqb-false (x / 8 % 2) 1 t in
      absurd (some (omega (arith, l, m, n, o, u)))

-- a register that carries nothing holds 0 alone
pub nothing_held : (n x : ℕ) → n ≡ 0 → eqb x 0 ≡ in_range n x
unfolding too_large bit_not_carried in_range
nothing_held n zero e = rw e
nothing_held n (suc x) e = rw (e, ne_eqb (suc x) 0 (λ q. omega (arith, q))) (no_bit (suc x) (λ q. omega (arith, q)) _ _ _ _ _ refl refl refl refl refl)

pub none_else : (o : Option Contents) → ((k : Contents) → o ≡ Some k → ⊥) → o ≡ None
none_else None h = refl
none_else (Some k) h = absurd (h k refl)

-- a number that stands in no row
pub nothing_carried : (n : ℕ) → (n ≡ 0 → ⊥) → (n ≡ 1 → ⊥) → (n ≡ 2 → ⊥) → (n ≡ 10 → ⊥) → (n ≡ 11 → ⊥) → (16 ≤ n → n ≤ 21 → ⊥) → None ≡ carries (carried_of n)
unfolding table has_row carries
nothing_carried n a b c d e f = sym (ap carries (none_carried n none))
  where
    above : (m : ℕ) → 16 ≤ m → m ≤ 21 → eqb n m ≡ false
    above m l h = ne_eqb n m (λ q. f (omega arith) (omega arith))

    none : has_row table n ≡ false
    none =
        rw (
          ne_eqb n 0 a,
          ne_eqb n 1 b,
          ne_eqb n 2 c,
          ne_eqb n 10 d,
          ne_eqb n 11 e,
          above 16 (omega arith) (omega arith),
          above 17 (omega arith) (omega arith),
          above 18 (omega arith) (omega arith),
          above 19 (omega arith) (omega arith),
          above 20 (omega arith) (omega arith),
          above 21 (omega arith) (omega arith),
        )
