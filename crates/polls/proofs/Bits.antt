-- The bit of one of eight lines, and a byte joined with it. Assumes nothing.
use Prim.Native.Nat.{ℕ, ◌+◌, ◌-◌, ◌*◌, ◌/◌, ◌%◌, ◌^◌, ◌≤◌, ◌<◌}
use native.Mathlib.Omega.{arith}
use mathlib.Core.Path.{◌≡◌, ap, ◌∙◌}
use mathlib.Core.Bool.{Bool, true, false, cond, ◌&&◌, not}
use mathlib.Core.Logic.{⊎_elim}
use lib.Pow.{pow-lt, pow-add}
use lib.Bits.{bit_and, bit_or, and_high, or_add_and, or_zero_r}
use borrow.Author.Tests.{eq-eqb, ne_eqb}
use Rattle.branches.proofs.Branches.{split}
use Rattle.polls.specs.declared.Response.{Response}
use Rattle.polls.specs.Polls.{answers, answer_bits, has_bit, joined}

-- a weight of eight bits
pub weight_small : (n : ℕ) → n < 8 → 2 ^ n < 256
weight_small n h = pow-lt h

-- the bits of a byte that are the weight's
weight_and : (d n : ℕ) → bit_and d (2 ^ n) ≡ (d / 2 ^ n % 2) * 2 ^ n
weight_and d n =
    let e : 2 ^ (1 + n) ≡ 2 ^ n + 2 ^ n = pow-add 2 1 n ∙ omega arith in
    let f : 2 ^ n ≡ 2 ^ (1 + n) - 2 ^ n = omega (arith, e) in
    ap (bit_and d) f ∙ and_high d 1 n

-- a bit joined to a byte: it is there already, or it is added
pub weight_or : (d n : ℕ) → bit_or d (2 ^ n) ≡ cond (not (has_bit d n)) (d + 2 ^ n) d
weight_or d n =
    let x : ℕ = d / 2 ^ n % 2 in
    ⊎_elim
    (λ (z : x < 1).
    let e : x ≡ 0 = omega arith in
    let a : bit_and d (2 ^ n) ≡ 0 * 2 ^ n = weight_and d n ∙ ap (λ (m : ℕ). m * 2 ^ n) e in
    simp (ne_eqb x 1 (λ h. omega arith)) (omega (arith, a, or_add_and d (2 ^ n))))
    (λ (o : 1 ≤ x).
    let e : x ≡ 1 = omega arith in
    let a : bit_and d (2 ^ n) ≡ 1 * 2 ^ n = weight_and d n ∙ ap (λ (m : ℕ). m * 2 ^ n) e in
    simp (eq-eqb x 1 e) (omega (arith, a, or_add_and d (2 ^ n))))
    (split x 1)

-- what an answer is, by whether the poll is answered, and a byte joined with it
pub joined_met : (p : Response) (requested : Bool) (d : ℕ) → bit_or d (answer_bits p requested) ≡ joined p requested d
unfolding answer_bits joined
joined_met p requested d = go (answers p requested)
  where
    go : (t : Bool) → bit_or d (cond t (2 ^ p.line) 0) ≡ cond (t && not (has_bit d p.line)) (d + 2 ^ p.line) d
    go true = weight_or d p.line
    go false = or_zero_r d
