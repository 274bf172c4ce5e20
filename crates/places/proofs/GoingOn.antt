-- The places of a store go on, whatever was removed. Assumes nothing.
use Prim.Native.Nat.{ℕ, ◌+◌, ◌-◌, ◌%◌, ◌≤◌, ◌<◌}
use native.Mathlib.Omega.{arith}
use native.Mathlib.Nat.{mod-add-mod, zero-mod, add-mod_right}
use mathlib.Core.Path.{◌≡◌, sym, ap, ◌∙◌}
use lib.ListN.{length, set}
use Rattle.store.specs.declared.Ring.{Ring}
use Rattle.store.specs.Ring.{drop_ring}
use Rattle.store.proofs.Laws.{put_room, ring_room}
use Rattle.places.specs.OneStore.{next_place, PlacesGoOn}
use Rattle.places.proofs.KnownRing.{place}

pub places_go_on : PlacesGoOn
unfolding drop_ring
places_go_on =
    record {
      first = λ cap n. zero-mod cap;
      written = λ s r b f h.
          put_room s r b (omega arith)
          ∙ ap (λ (p : ℕ). set s p b) (place r r.len f.within (omega arith) ∙ ap (λ (n : ℕ). (r.oldest + r.len) % n) f.cap);
      later = λ s r f h.
          ap (λ (q : Ring). next_place (length s) q) (ring_room r (omega arith))
          ∙ ap (λ (p : ℕ). p % length s) (sym (plus r.oldest r.len))
          ∙ sym (mod-add-mod (r.oldest + r.len) (length s) 1);
      removed = λ s r n f h.
          ap (λ (p : ℕ). (p + (r.len - n)) % length s) (place r n f.within h ∙ ap (λ (m : ℕ). (r.oldest + n) % m) f.cap)
          ∙ mod-add-mod (r.oldest + n) (length s) (r.len - n)
          ∙ ap (λ (p : ℕ). p % length s) (whole r.oldest n r.len h);
      newest = λ s r f h.
          mod-add-mod (r.oldest + r.len) (length s) (length s - 1)
          ∙ ap (λ (p : ℕ). p % length s) (one_less r.oldest r.len (length s) h (omega (arith, f.cap, f.within.oldest)))
          ∙ add-mod_right (r.oldest + (r.len - 1)) (length s);
    }
  where
    plus : (a b : ℕ) → (a + b) + 1 ≡ a + (b + 1)
    plus a b = omega arith

    whole : (a n b : ℕ) → n ≤ b → (a + n) + (b - n) ≡ a + b
    whole a n b h = omega arith

    one_less : (a n c : ℕ) → 0 < n → 0 < c → (a + n) + (c - 1) ≡ (a + (n - 1)) + c
    one_less a n c h g = omega arith
