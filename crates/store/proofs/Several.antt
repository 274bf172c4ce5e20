-- Several bytes stored one after the other, where there is room for all of them. Assumes nothing.
use Prim.Native.Nat.{◌+◌, ◌≤◌, ◌<◌}
use native.Mathlib.Omega.{arith}
use mathlib.Core.Path.{◌≡◌, refl, sym, ap, ◌∙◌}
use mathlib.Core.List.{List, [], ◌∷◌, ◌++◌, append-nil}
use lib.ListN.{length}
use lib.Seq.{append_snoc}
use Rattle.store.specs.declared.Ring.{Ring}
use Rattle.store.specs.declared.Offered.{Offered}
use Rattle.store.specs.Ring.{Fit, held, put_ring, put_bytes, puts_ring, puts_bytes}
use Rattle.std.specs.Prelude.{unwrap_or}
use Rattle.store.specs.Promises.{Put, Puts}
use Rattle.store.proofs.Laws.{put_size, put_fit, held_put, ring_len, put_cap}

pub puts_size : {A : Type 0} (s : List A) (r : Ring) (l : List A) → length (puts_bytes s r l) ≡ length s
unfolding puts_bytes
puts_size s r [] = refl
puts_size s r (b ∷ l) = puts_size (put_bytes s r b) (put_ring r) l ∙ put_size s r b

pub puts_fit : {A : Type 0} (s : List A) (r : Ring) (l : List A) → Fit s r → Fit (puts_bytes s r l) (puts_ring r l)
unfolding puts_bytes puts_ring
puts_fit s r [] f = f
puts_fit s r (b ∷ l) f = puts_fit (put_bytes s r b) (put_ring r) l (put_fit s r b f)

pub puts_cap : {A : Type 0} (r : Ring) (l : List A) → (puts_ring r l).cap ≡ r.cap
unfolding puts_ring
puts_cap r [] = refl
puts_cap r (b ∷ l) = puts_cap (put_ring r) l ∙ put_cap r

pub puts_len : {A : Type 0} (r : Ring) (l : List A) → r.len + length l ≤ r.cap → (puts_ring r l).len ≡ r.len + length l
unfolding puts_ring
puts_len r [] h = omega arith
puts_len r (b ∷ l) h =
    let e : (put_ring r).len ≡ r.len + 1 = ring_len r (omega arith) in
    omega (arith, e, puts_len (put_ring r) l (omega (arith, e, put_cap r)))

pub held_puts : {A : Type 0} (s : List A) (r : Ring) (l : List A) → Fit s r → r.len + length l ≤ r.cap →
    held (puts_bytes s r l) (puts_ring r l) ≡ held s r ++ l
unfolding puts_bytes puts_ring
held_puts s r [] f h = sym (append-nil (held s r))
held_puts s r (b ∷ l) f h =
    let more : r.len < r.cap = omega arith in
    held_puts (put_bytes s r b) (put_ring r) l (put_fit s r b f) (omega (arith, ring_len r more, put_cap r))
    ∙ ap (λ x. x ++ l) (held_put s r b f more)
    ∙ append_snoc (held s r) b l

-- ---- a caller makes up several bytes from the calls that it makes

pub puts_none : {A : Type 0} (s : List A) (r : Ring) → Puts s r [] s r
unfolding puts_bytes puts_ring
puts_none s r = record { ring = refl; bytes = refl; size = refl }

pub puts_more : {A : Type 0} {s : List A} {r : Ring} {b : A} {l : List A} {s₁ s₂ : List A} {o : Offered} {r₁ r₂ : Ring} →
    Put s r b s₁ o → r₁ ≡ unwrap_or o.after r → Puts s₁ r₁ l s₂ r₂ → Puts s r (b ∷ l) s₂ r₂
unfolding puts_bytes puts_ring
puts_more {l} p e q =
    let same = e ∙ p.ring in
    record { ring = q.ring ∙ ap (λ x. puts_ring x l) same; bytes = q.bytes ∙ (λ i. puts_bytes (p.bytes i) (same i) l); size = q.size ∙ p.size }
