-- What storing and dropping do to what is held. Assumes nothing.
use Prim.Native.Nat.{ℕ, ◌+◌, ◌-◌, ◌≤◌, ◌<◌}
use native.Mathlib.Omega.{arith}
use native.Mathlib.Nat.{add_assoc}
use mathlib.Core.Path.{◌≡◌, refl, sym, ap, ◌∙◌}
use mathlib.Core.List.{List, [], ◌∷◌, ◌++◌, append-nil}
use mathlib.Core.Bool.{Bool, true, false, cond}
use mathlib.Core.Logic.{⊎_elim}
use lib.ListN.{length, get_or, drop, set, length-append, length-drop, length-set, get_or-append}
use lib.Seq.{get_or-drop, get_or-append_seam, get_or-set_same, get_or-set_other, ext_get_or}
use borrow.Author.Tests.{le-leb, lt-leb}
use Rattle.branches.proofs.Branches.{split}
use Rattle.store.specs.declared.Ring.{Ring}
use Rattle.store.specs.Ring.{Within, Fit, held, wrap, full, put_ring, put_bytes, drop_ring}
use Rattle.store.specs.Ring.Basis.{wrap_below, held_length, held_item, held_at}
use Rattle.store.proofs.Places.{wrap_wrap, wrap_apart}

-- ---- a byte stored where there is room

abbrev more : Ring → Ring
more r = record { cap = r.cap; oldest = r.oldest; len = r.len + 1 }

abbrev written : {A : Type 0} → List A → Ring → A → List A
written s r b = set s (wrap r.cap (r.oldest + r.len)) b

more_fit : {A : Type 0} (s : List A) (r : Ring) (b : A) → Fit s r → r.len < r.cap → Fit (written s r b) (more r)
more_fit s r b f h =
    record { cap = simp length-set f.cap; within = record { oldest = f.within.oldest; len = omega arith; small = f.within.small } }

held_more : {A : Type 0} (s : List A) (r : Ring) (b : A) → Fit s r → r.len < r.cap → held (written s r b) (more r) ≡ held s r ++ (b ∷ [])
held_more s r b f h =
    let f' : Fit (written s r b) (more r) = more_fit s r b f h in
    let at : ℕ = wrap r.cap (r.oldest + r.len) in
    let below : at < length s = omega (arith, wrap_below r.cap (r.oldest + r.len) (omega arith)) in
    let n : length (held (written s r b) (more r)) ≡ r.len + 1 = held_length (written s r b) (more r) f' in
    ext_get_or b (held (written s r b) (more r)) (held s r ++ (b ∷ []))
    (n ∙ simp length-append (omega (arith, held_length s r f)))
    (λ i l.
    held_item (written s r b) (more r) i b f' (omega arith)
    ∙ ⊎_elim
    (λ o. get_or-set_other s at (wrap r.cap (r.oldest + i)) b b (wrap_apart r.cap r.oldest i r.len f.within.oldest o h)
    ∙ sym (held_item s r i b f o)
    ∙ sym (get_or-append (held s r) (b ∷ []) b i (omega (arith, held_length s r f))))
    (λ o. let e : i ≡ r.len = omega arith in
    ap (λ (m : ℕ). get_or (written s r b) (wrap r.cap (r.oldest + m)) b) e
    ∙ get_or-set_same s at b b below
    ∙ sym (get_or-append_seam (held s r) b [] b)
    ∙ ap (λ (m : ℕ). get_or (held s r ++ (b ∷ [])) m b) (held_length s r f ∙ sym e))
    (split i r.len))

-- ---- a byte offered, by whether the store is full

pub put_room : {A : Type 0} (s : List A) (r : Ring) (b : A) → r.len < r.cap → put_bytes s r b ≡ set s (wrap r.cap (r.oldest + r.len)) b
unfolding put_bytes
put_room s r b h = simp (lt-leb r.cap r.len h)

pub put_full : {A : Type 0} (s : List A) (r : Ring) (b : A) → r.cap ≤ r.len → put_bytes s r b ≡ s
unfolding put_bytes
put_full s r b h = simp (le-leb r.cap r.len h)

pub ring_room : (r : Ring) → r.len < r.cap → put_ring r ≡ record { cap = r.cap; oldest = r.oldest; len = r.len + 1 }
unfolding put_ring
ring_room r h = simp (lt-leb r.cap r.len h)

pub ring_full : (r : Ring) → r.cap ≤ r.len → put_ring r ≡ r
unfolding put_ring
ring_full r h = simp (le-leb r.cap r.len h)

pub put_size : {A : Type 0} (s : List A) (r : Ring) (b : A) → length (put_bytes s r b) ≡ length s
unfolding put_bytes
put_size s r b = go (full r)
  where
    go : (t : Bool) → length (cond t s (written s r b)) ≡ length s
    go true = refl
    go false = length-set s (wrap r.cap (r.oldest + r.len)) b

pub put_fit : {A : Type 0} (s : List A) (r : Ring) (b : A) → Fit s r → Fit (put_bytes s r b) (put_ring r)
put_fit s r b f =
    ⊎_elim
    (λ l. rw (put_room s r b l, ring_room r l) (more_fit s r b f l))
    (λ g. rw (put_full s r b g, ring_full r g) f)
    (split r.len r.cap)

pub held_put : {A : Type 0} (s : List A) (r : Ring) (b : A) → Fit s r → r.len < r.cap → held (put_bytes s r b) (put_ring r) ≡ held s r ++ (b ∷ [])
held_put s r b f h = rw (put_room s r b h, ring_room r h) (held_more s r b f h)

pub held_offered : {A : Type 0} (s : List A) (r : Ring) (b : A) → Fit s r → held (put_bytes s r b) (put_ring r) ≡ held s r ++ cond (full r) [] (b ∷ [])
held_offered s r b f =
    ⊎_elim
    (λ l. held_put s r b f l ∙ simp (lt-leb r.cap r.len l))
    (λ g. simp (le-leb r.cap r.len g, put_full s r b g, ring_full r g) (sym (append-nil (held s r))))
    (split r.len r.cap)

-- ---- the oldest bytes dropped

pub drop_within : (r : Ring) (n : ℕ) → Within r → n ≤ r.len → Within (drop_ring r n)
unfolding drop_ring
drop_within r n f h = record { oldest = wrap_below r.cap (r.oldest + n) (omega arith); len = omega arith; small = f.small }

pub drop_fit : {A : Type 0} (s : List A) (r : Ring) (n : ℕ) → Fit s r → n ≤ r.len → Fit s (drop_ring r n)
unfolding drop_ring
drop_fit s r n f h = record { cap = f.cap; within = drop_within r n f.within h }

pub held_drop : (s : List ℕ) (r : Ring) (n : ℕ) → Fit s r → n ≤ r.len → held s (drop_ring r n) ≡ drop n (held s r)
unfolding drop_ring
held_drop s r n f h =
    let f' : Fit s (drop_ring r n) = drop_fit s r n f h in
    let o : Ring = drop_ring r n in
    let e : length (held s o) ≡ r.len - n = held_length s o f' in
    ext_get_or 0 (held s o) (drop n (held s r))
    (e ∙ simp length-drop (omega (arith, held_length s r f)))
    (λ i l.
    held_at s o i f' (omega arith)
    ∙ ap (λ (m : ℕ). get_or s m 0) (wrap_wrap r.cap (r.oldest + n) i (omega arith))
    ∙ ap (λ (m : ℕ). get_or s (wrap r.cap m) 0) (add_assoc r.oldest n i)
    ∙ sym (held_at s r (n + i) f (omega arith))
    ∙ sym (get_or-drop n (held s r) i 0))
