-- The stores are as the ring by the remainder. Assumes nothing.
use Prim.Native.Nat.{ℕ, zero, suc, ◌+◌, ◌-◌, ◌%◌, ◌≤◌, ◌<◌, min}
use native.Mathlib.Omega.{arith}
use native.Mathlib.Nat.{mod-eq_of_lt, mod-eq-sub-mod, zero-add}
use mathlib.Core.Path.{◌≡◌, refl, sym, ap, subst, ◌∙◌}
use mathlib.Core.Bool.{cond}
use mathlib.Core.List.{List}
use mathlib.Core.Logic.{⊎_elim}
use lib.ListN.{length, get_or, set, length-take, length-drop}
use lib.Seq.{ext_get_or, get_or-take}
use borrow.Author.Tests.{le-leb, lt-leb}
use Rattle.branches.proofs.Branches.{split}
use Rattle.store.specs.declared.Ring.{Ring}
use Rattle.store.specs.declared.Offered.{Offered}
use Rattle.store.specs.declared.Stretch.{Stretch}
use Rattle.store.specs.Ring.{Within, Fit, wrap, held, run, full, put_bytes, drop_ring}
use Rattle.store.specs.Promises.{Offering, Put, Dropped, Spanned, Shown}
use Rattle.store.proofs.Laws.{wrap_low, wrap_high, held_at, held_length, run_part}
use Rattle.store.proofs.Laws.{offered_room, offered_full, offered_one, put_at, put_kept, drop_met, shown_met}
use Rattle.cells.specs.Newest.{replaced_cells}
use Rattle.cells.proofs.Newest.{replaced_at}
use Rattle.places.specs.GoingRound.{by_remainder, together, offered, place_by, put_by, replace_by, look_by, drop_by, bytes_by}
use Rattle.places.specs.GoingRound.{AsByRemainder, AllByRemainder, promised, HeldByRemainder}

-- ---- going round once, by a comparison and by the remainder

wrap_remainder : (cap p : ℕ) → p < cap + cap → wrap cap p ≡ p % cap
wrap_remainder cap p h =
    ⊎_elim
    (λ l. wrap_low cap p l ∙ sym (mod-eq_of_lt l))
    (λ g. let below : p - cap < cap = omega arith in wrap_high cap p g ∙ sym (mod-eq-sub-mod g ∙ mod-eq_of_lt below))
    (split p cap)

pub place : (r : Ring) (k : ℕ) → Within r → k ≤ r.len → wrap r.cap (r.oldest + k) ≡ place_by by_remainder r k
place r k f h = wrap_remainder r.cap (r.oldest + k) (omega arith)

-- ---- bytes one after the other

length_bytes : (s : List ℕ) (r : Ring) (k n : ℕ) → length (bytes_by by_remainder s r k n) ≡ n
unfolding bytes_by
length_bytes s r k zero = refl
length_bytes s r k (suc n) = ap suc (length_bytes s r (suc k) n)

bytes_at : (s : List ℕ) (r : Ring) (k n i : ℕ) → i < n → get_or (bytes_by by_remainder s r k n) i 0 ≡ look_by by_remainder s r (k + i)
unfolding bytes_by
bytes_at s r k zero i h = omega arith
bytes_at s r k (suc n) zero h = ap (look_by by_remainder s r) (omega arith)
bytes_at s r k (suc n) (suc i) h = bytes_at s r (suc k) n i (omega arith) ∙ ap (look_by by_remainder s r) (omega arith)

-- ---- each call

look : (s : List ℕ) (r : Ring) (k : ℕ) → Fit s r → k < r.len → get_or (held s r) k 0 ≡ look_by by_remainder s r k
look s r k f h = held_at s r k f h ∙ ap (λ (n : ℕ). get_or s n 0) (place r k f.within (omega arith))

offered_so : (r : Ring) → Offering r (offered r)
offered_so r =
    ⊎_elim
    (λ l. rw (lt-leb r.cap r.len l) (offered_room r l _ refl))
    (λ g. rw (le-leb r.cap r.len g) (offered_full r g))
    (split r.len r.cap)

put : (s : List ℕ) (r : Ring) (b : ℕ) (o : List ℕ) (a : Offered) → Fit s r → Put s r b o a → (o ≡ put_by by_remainder s r b) × (a ≡ offered r)
unfolding put_bytes
put s r b o a f p = (
  p.bytes ∙ ap (λ (n : ℕ). cond (full r) s (set s n b)) (place r r.len f.within (omega arith)),
  offered_one r a (offered r) p.offering (offered_so r),
)

replaced_by : (s : List ℕ) (r : Ring) (b : ℕ) → Fit s r → replaced_cells s r b ≡ replace_by by_remainder s r b
unfolding replaced_cells
replaced_by s r b f = ap (λ (n : ℕ). set s n b) (place r (r.len - 1) f.within (omega arith))

dropped : (r : Ring) (n : ℕ) (o : Ring) → Within r → n ≤ r.len → Dropped r n o → o ≡ drop_by by_remainder r n
unfolding drop_ring
dropped r n o f h d = d.ring ∙ (λ i. record { cap = r.cap; oldest = place r n f h i; len = r.len - n })

first_place : (r : Ring) → Within r → place_by by_remainder r 0 ≡ r.oldest
first_place r f = let first : r.oldest + 0 ≡ r.oldest = omega arith in ap (λ (n : ℕ). n % r.cap) first ∙ mod-eq_of_lt f.oldest

span : (r : Ring) (o : Stretch) → Within r → Spanned r o → (o.start ≡ place_by by_remainder r 0) × (o.end ≡ o.start + together r)
span r o f p = (p.start ∙ sym (first_place r f), omega (arith, p.size, p.order))

-- a list that begins what is held
begins : (s : List ℕ) (r : Ring) (o : List ℕ) (n : ℕ) → Fit s r → n ≤ r.len → length o ≡ n →
    ((i : ℕ) → i < n → get_or o i 0 ≡ get_or (held s r) i 0) → o ≡ bytes_by by_remainder s r 0 n
begins s r o n f h e same =
    ext_get_or 0 o (bytes_by by_remainder s r 0 n) (e ∙ sym (length_bytes s r 0 n))
    (λ i l.
    let m : i < n = omega arith in
    same i m ∙ look s r i f (omega arith) ∙ sym (bytes_at s r 0 n i m ∙ ap (look_by by_remainder s r) (zero-add i)))

shown_length : (s : List ℕ) (r : Ring) → Fit s r → length (run s r) ≡ together r
shown_length s r f =
    let m : ℕ = min r.len (length s - r.oldest) in
    sym (ap length (run_part s r m refl)) ∙ simp (length-take, length-drop) (omega (arith, f.cap))

show : (s : List ℕ) (r : Ring) (o : List ℕ) → Fit s r → Shown s r o → o ≡ bytes_by by_remainder s r 0 (together r)
show s r o f p =
    let e : length o ≡ together r = ap length p.bytes ∙ shown_length s r f in
    begins s r o (together r) f (omega arith) e
    (λ i l. ap (λ (x : List ℕ). get_or x i 0) p.first ∙ get_or-take (length o) (held s r) i 0 (omega (arith, e)))

pub as_by_remainder : AsByRemainder promised
as_by_remainder =
    record {
      place = λ r k o f h e. e ∙ place r k f h;
      put = put;
      replaced = λ s r b o f h p. p.cells ∙ replaced_by s r b f;
      look = λ s r k o f h e. e ∙ look s r k f h;
      dropped = dropped;
      span = span;
      show = show;
    }

-- ---- all that the ring by the remainder gives is given

put_given : (s : List ℕ) (r : Ring) (b : ℕ) → Fit s r → Put s r b (put_by by_remainder s r b) (offered r)
put_given s r b f =
    ⊎_elim
    (λ l.
    rw (lt-leb r.cap r.len l)
    (put_at s r b (place_by by_remainder r r.len) _ f (offered_room r l _ refl) refl (sym (place r r.len f.within (omega arith)))))
    (λ g. rw (le-leb r.cap r.len g) (put_kept s r b _ f (offered_full r g) refl))
    (split r.len r.cap)

spanned_from : (r : Ring) (p : ℕ) → Within r → p ≡ r.oldest → Spanned r (record { start = p; end = p + together r })
spanned_from r p f e = record { start = e; size = omega arith; order = omega arith; below = omega (arith, e, f.oldest) }

show_given : (s : List ℕ) (r : Ring) → Fit s r → Shown s r (bytes_by by_remainder s r 0 (together r))
show_given s r f =
    let p : Shown s r _ = shown_met s r _ f (spanned_from r r.oldest f.within refl) in
    subst (Shown s r) (show s r _ f p) p

pub all_by_remainder : AllByRemainder promised
all_by_remainder =
    record {
      place = λ r k f h. sym (place r k f h);
      put = put_given;
      replaced = λ s r b f h. replaced_at s r b _ f h (sym (place r (r.len - 1) f.within (omega arith)));
      look = λ s r k f h. sym (look s r k f h);
      dropped = λ r n f h. drop_met r n (place_by by_remainder r n) h (sym (place r n f h));
      span = λ r f. spanned_from r (place_by by_remainder r 0) f (first_place r f);
      show = show_given;
    }

pub held_by_remainder : HeldByRemainder
held_by_remainder s r f = begins s r (held s r) r.len f (omega arith) (held_length s r f) (λ i l. refl)
