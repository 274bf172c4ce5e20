-- Numbers below a bound: one stored among them, and what a ring holds of them. Assumes nothing.
use Prim.Native.Nat.{ℕ, zero, suc, ◌+◌, ◌<◌}
use native.Mathlib.Omega.{arith}
use mathlib.Core.Path.{sym, subst}
use mathlib.Core.Logic.{⊎_elim}
use mathlib.Core.List.{List, [], ◌∷◌}
use lib.ListN.{get_or, set, get_or-eq_default}
use Rattle.branches.proofs.Branches.{split, by_cond}
use Rattle.store.specs.declared.Ring.{Ring}
use Rattle.store.specs.Ring.{Fit, full, wrap, held, put_bytes}
use Rattle.store.proofs.Laws.{held_at, held_length}

module _ (bound : ℕ) where
  abbrev pub Below : List ℕ → Type 0
  Below xs = (k : ℕ) → get_or xs k 0 < bound

  pub held_below : (xs : List ℕ) (r : Ring) → Fit xs r → Below xs → Below (held xs r)
  held_below xs r f b k =
      ⊎_elim
      (λ l. subst (λ (n : ℕ). n < bound) (sym (held_at xs r k f l)) (b (wrap r.cap (r.oldest + k))))
      (λ g. subst (λ (n : ℕ). n < bound) (sym (get_or-eq_default (held xs r) 0 {n = k} (omega (arith, held_length xs r f)))) (omega (arith, b 0)))
      (split k r.len)

  module _ (b : ℕ) (h : b < bound) where
    pub set_below : (xs : List ℕ) (at : ℕ) → Below xs → Below (set xs at b)
    set_below [] at k j = omega (arith, h)
    set_below (x ∷ xs) zero k zero = h
    set_below (x ∷ xs) zero k (suc j) = k (suc j)
    set_below (x ∷ xs) (suc i) k zero = k 0
    set_below (x ∷ xs) (suc i) k (suc j) = set_below xs i (λ n. k (suc n)) j

    pub put_below : (xs : List ℕ) (r : Ring) → Below xs → Below (put_bytes xs r b)
    unfolding put_bytes
    put_below xs r k = by_cond Below (full r) _ _ (λ _. k) (λ _. set_below xs (wrap r.cap (r.oldest + r.len)) k)
