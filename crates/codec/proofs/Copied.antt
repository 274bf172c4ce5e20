-- Two lists copied over a list one behind the other are all that is left of it, if it is as long as both. Assumes nothing.
use Prim.Native.Nat.{ℕ, ◌+◌, ◌-◌}
use mathlib.Core.Path.{◌≡◌, ap, ◌∙◌}
use mathlib.Core.List.{List, [], ◌++◌, append-nil}
use native.Mathlib.Omega.{arith}
use lib.ListN.{length, take, drop, length-append, length-drop, drop_of_length-le, take-append-drop}
use lib.Seq.{take_at, drop_at}
use Rattle.codec.specs.Codec.{Codec}
use Rattle.codec.specs.Blocks.{packed}

pub both_copied : (n : ℕ) (h t b b₁ ys : List ℕ) → length h ≡ n → length b ≡ n + length t → b₁ ≡ h ++ drop n b → ys ≡ t →
    take n b₁ ++ (ys ++ drop (length b₁ - n) (drop n b₁)) ≡ h ++ t
both_copied n h t b b₁ ys lh lb first there =
    let front : take n b₁ ≡ h = ap (take n) first ∙ take_at h (drop n b) n lh in
    let back : drop n b₁ ≡ drop n b = ap (drop n) first ∙ drop_at h (drop n b) n lh in
    let room : length b₁ - n ≡ length t = omega (arith, ap length first, length-append h (drop n b), length-drop n b) in
    let none : drop (length t) (drop n b) ≡ [] = drop_of_length-le (drop n b) {i = length t} (omega (arith, length-drop n b)) in
    rw (front, there, back, room, none, append-nil)

-- a state's bytes in two parts, the second behind the first, are its block
pub packed_both : {S : Type 0} (layout : Codec S) (n : ℕ) (s : S) (h t b : List ℕ) → h ≡ take n (layout.put s) → t ≡ drop n (layout.put s) →
    b ≡ h ++ t → b ≡ packed layout s
unfolding packed
packed_both layout n s h t b p q e = e ∙ (λ i. p i ++ q i) ∙ take-append-drop n (layout.put s)
