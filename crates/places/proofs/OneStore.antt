-- The places of one store over a call. Assumes nothing.
use Prim.Native.Nat.{ℕ, ◌+◌, ◌-◌, ◌%◌, ◌≤◌, ◌<◌}
use native.Mathlib.Omega.{arith}
use mathlib.Core.Path.{◌≡◌, refl, sym, ap, ◌∙◌}
use mathlib.Core.Bool.{true, false, false≢true}
use mathlib.Core.List.{List, [], ◌∷◌, map}
use lib.ListN.{length, get_or, set}
use Rattle.store.specs.declared.Ring.{Ring}
use Rattle.store.specs.Ring.{Fit, wrap, held, empty_ring, put_ring, put_bytes, puts_ring, puts_bytes}
use Rattle.store.proofs.Laws.{held_at, put_size, put_cap, put_fit, ring_len}
use Rattle.cells.specs.Newest.{replaced_cells}
use Rattle.places.specs.OneStore.{next_place, anew, again, place_after, written_from, Placed}
use Rattle.places.proofs.KnownRing.{place}
use Rattle.places.proofs.GoingOn.{places_go_on}

-- the ring after a byte fits the same list
pub more_fits : (s : List ℕ) (r : Ring) → Fit s r → Fit s (put_ring r)
more_fits s r f = record { cap = put_cap r ∙ f.cap; within = (put_fit s r 0 f).within }

next_goes : (s : List ℕ) (r : Ring) (l : List ℕ) → Fit s r → r.len + length l ≤ length s →
    next_place (length s) (puts_ring r l) ≡ place_after (length s) (next_place (length s) r) (map anew l)
unfolding puts_ring place_after
next_goes s r [] f h = refl
next_goes s r (b ∷ l) f h =
    let room : r.len < length s = omega arith in
    let more : (put_ring r).len ≡ r.len + 1 = ring_len r (omega arith) in
    next_goes s (put_ring r) l (more_fits s r f) (omega (arith, more))
    ∙ ap (λ (p : ℕ). place_after (length s) p (map anew l)) (places_go_on.later s r f room)

module _ (mark : ℕ → ℕ) where
  -- nothing is written, and the next place stays
  pub placed_still : (s : List ℕ) (r r' : Ring) → next_place (length s) r' ≡ next_place (length s) r → Placed mark false [] s r s r'
  unfolding written_from place_after
  placed_still s r r' e = record { bytes = refl; next = e; none = λ h. absurd (false≢true h) }

  -- nothing is written, and the ring stays
  pub placed_same : (s : List ℕ) (r r' : Ring) → r' ≡ r → Placed mark false [] s r s r'
  placed_same s r r' e = placed_still s r r' (ap (next_place (length s)) e)

  -- the store is emptied
  pub placed_emptied : (s : List ℕ) (r r' : Ring) {cap : ℕ} → r' ≡ empty_ring cap → Placed mark true [] s r s r'
  unfolding written_from
  placed_emptied s r r' {cap} e =
      record {
        bytes = refl;
        next = ap (next_place (length s)) e ∙ places_go_on.first (length s) cap;
        none = λ _. ap (λ (q : Ring). q.len) e;
      }

  bytes_go : (s : List ℕ) (r : Ring) (l : List ℕ) → Fit s r → r.len + length l ≤ length s →
      puts_bytes s r l ≡ written_from mark (next_place (length s) r) (map anew l) s
  unfolding puts_bytes written_from
  bytes_go s r [] f h = refl
  bytes_go s r (b ∷ l) f h =
      let room : r.len < length s = omega arith in
      let n : length (put_bytes s r b) ≡ length s = put_size s r b in
      let more : (put_ring r).len ≡ r.len + 1 = ring_len r (omega arith) in
      let at : next_place (length (put_bytes s r b)) (put_ring r) ≡ (next_place (length s) r + 1) % length s =
      ap (λ (k : ℕ). next_place k (put_ring r)) n ∙ places_go_on.later s r f room in
      bytes_go (put_bytes s r b) (put_ring r) l (put_fit s r b f) (omega (arith, n, more))
      ∙ (λ i. written_from mark (at i) (map anew l) (places_go_on.written s r b f room i))

  -- bytes are added, where there is room for all of them
  pub placed_added : (s : List ℕ) (r : Ring) (l : List ℕ) → Fit s r → r.len + length l ≤ length s →
      Placed mark false (map anew l) s r (puts_bytes s r l) (puts_ring r l)
  placed_added s r l f h = record { bytes = bytes_go s r l f h; next = next_goes s r l f h; none = λ h. absurd (false≢true h) }

  -- the newest is marked
  pub placed_marked : (s : List ℕ) (r r' : Ring) → Fit s r → 0 < r.len → r' ≡ r →
      Placed mark false (again ∷ []) s r (replaced_cells s r (mark (get_or (held s r) (r.len - 1) 0))) r'
  unfolding replaced_cells written_from place_after
  placed_marked s r r' f h e =
      let at = place r (r.len - 1) f.within (omega arith) ∙ ap (λ (n : ℕ). (r.oldest + (r.len - 1)) % n) f.cap ∙ sym (places_go_on.newest s r f h) in
      record {
        bytes =
            ap (λ (c : ℕ). set s (wrap r.cap (r.oldest + (r.len - 1))) (mark c)) (held_at s r (r.len - 1) f (omega arith))
            ∙ ap (λ (p : ℕ). set s p (mark (get_or s p 0))) at;
        next = ap (next_place (length s)) e;
        none = λ h. absurd (false≢true h);
      }
