-- Where all that was added to a store was written, from every call to the run. Assumes nothing.
use Prim.Native.Nat.{ℕ, ◌+◌, ◌%◌}
use native.Mathlib.Nat.{add-zero, zero-mod, mod-add-mod}
use native.Mathlib.Omega.{arith}
use mathlib.Core.Path.{◌≡◌, refl, sym, ap, ◌∙◌}
use mathlib.Core.Bool.{Bool, true, false}
use mathlib.Core.List.{List, [], ◌∷◌, ◌++◌}
use lib.ListN.{length, set, length-set}
use Rattle.branches.proofs.Branches.{cond_true, cond_false}
use Rattle.machine.specs.Course.{of, end, all, some}
use Rattle.machine.specs.Machine.{Machine, seen, course, AllFair, Obeys}
use Rattle.machine.proofs.Course.{first_not}
use Rattle.store.specs.declared.Ring.{Ring}
use Rattle.places.specs.OneStore.{next_place, place_before, Write, anew, again, place_after, marked_at, written_from, Placed}
use Rattle.places.specs.Filling.{Filling, PlacedByCalls, filled, FromCalls}

-- how many bytes are written anew
bytes_of : List Write → ℕ
bytes_of [] = 0
bytes_of (anew b ∷ l) = 1 + bytes_of l
bytes_of (again ∷ l) = bytes_of l

after_remainder : (cap n : ℕ) (l : List Write) → place_after cap (n % cap) l ≡ (n + bytes_of l) % cap
unfolding place_after bytes_of
after_remainder cap n [] = ap (λ (k : ℕ). k % cap) (omega arith)
after_remainder cap n (anew b ∷ l) =
    ap (λ (p : ℕ). place_after cap p l) (mod-add-mod n cap 1) ∙ after_remainder cap (n + 1) l ∙ ap (λ (k : ℕ). k % cap) (omega arith)
after_remainder cap n (again ∷ l) = after_remainder cap n l

module _ (mark : ℕ → ℕ) where
  -- ---- what is written one after the other

  filled_length : (n : ℕ) (l : List Write) (s : List ℕ) → length (filled mark n l s) ≡ length s
  unfolding filled
  filled_length n [] s = refl
  filled_length n (anew b ∷ l) s = filled_length (n + 1) l (set s (n % length s) b) ∙ length-set s (n % length s) b
  filled_length n (again ∷ l) s = filled_length n l (marked_at mark (place_before (length s) (n % length s)) s) ∙ length-set s _ _

  filled_more : (n : ℕ) (l m : List Write) (s : List ℕ) → filled mark n (l ++ m) s ≡ filled mark (n + bytes_of l) m (filled mark n l s)
  unfolding filled bytes_of
  filled_more n [] m s = ap (λ (k : ℕ). filled mark k m s) (sym (add-zero n))
  filled_more n (anew b ∷ l) m s =
      let t : List ℕ = set s (n % length s) b in
      let e : n + 1 + bytes_of l ≡ n + (1 + bytes_of l) = omega arith in
      filled_more (n + 1) l m t ∙ ap (λ (k : ℕ). filled mark k m (filled mark (n + 1) l t)) e
  filled_more n (again ∷ l) m s = filled_more n l m (marked_at mark (place_before (length s) (n % length s)) s)

  -- ---- place after place, from that of the n-th on

  written_filled : (n : ℕ) (l : List Write) (s : List ℕ) → written_from mark (n % length s) l s ≡ filled mark n l s
  unfolding written_from filled
  written_filled n [] s = refl
  written_filled n (anew b ∷ l) s =
      let t : List ℕ = set s (n % length s) b in
      let e : (n % length s + 1) % length s ≡ (n + 1) % length t =
      mod-add-mod n (length s) 1 ∙ ap (λ (k : ℕ). (n + 1) % k) (sym (length-set s (n % length s) b)) in
      ap (λ (p : ℕ). written_from mark p l t) e ∙ written_filled (n + 1) l t
  written_filled n (again ∷ l) s =
      let t : List ℕ = marked_at mark (place_before (length s) (n % length s)) s in
      ap (λ (k : ℕ). written_from mark (n % k) l t) (sym (length-set s _ _)) ∙ written_filled n l t

-- ---- one store over a call, which empties it or not

module _ {mark : ℕ → ℕ} {t : Bool} {l : List Write} {s : List ℕ} {r : Ring} {s' : List ℕ} {r' : Ring} (p : Placed mark t l s r s' r') where
  begins_anew : t ≡ true → l ≡ [] → (s' ≡ s) × (next_place (length s') r' ≡ 0 % length s')
  unfolding written_from
  begins_anew e none =
      let same : s' ≡ s = p.bytes ∙ ap (λ (k : List Write). written_from mark (next_place (length s) r) k s) none in
      (same, ap (λ (k : List ℕ). next_place (length k) r') same ∙ p.next ∙ cond_true t _ _ e ∙ sym (zero-mod (length s')))

  goes_on : t ≡ false → (n : ℕ) → next_place (length s) r ≡ n % length s →
      (s' ≡ filled mark n l s) × (next_place (length s') r' ≡ (n + bytes_of l) % length s')
  goes_on e n at =
      let same : s' ≡ filled mark n l s = p.bytes ∙ ap (λ (q : ℕ). written_from mark q l s) at ∙ written_filled mark n l s in
      let size : length s' ≡ length s = ap length same ∙ filled_length mark n l s in (
        same,
        ap (λ (m : ℕ). next_place m r') size ∙ p.next ∙ cond_false t _ _ e
            ∙ ap (λ (q : ℕ). place_after (length s) q l) at ∙ after_remainder (length s) n l
            ∙ ap (λ (m : ℕ). (n + bytes_of l) % m) (sym size),
      )

-- ---- from every call to the run

module _ {World Call Said : Type 0} (M : Machine World Call Said) (F : Filling World Call Said)
    (kept : (c : Call) (o : M.Own) → M.Fine o → M.Fair c → M.Fine (M.after c o)) (placed : Obeys M (PlacedByCalls F)) where
  -- the next place is that of the n-th
  abbrev NextIs : ℕ → World → Type 0
  NextIs n w = next_place (length (F.store w)) (F.ring w) ≡ n % length (F.store w)

  run_goes : (cs : List Call) (o : M.Own) → M.Fine o → AllFair M cs → (n : ℕ) → NextIs n (M.stands o) → some F.empties (course M cs o) ≡ false →
      F.store (end (M.stands o) (course M cs o)) ≡ filled F.mark n (all F.written (course M cs o)) (F.store (M.stands o))
  unfolding end all course filled
  run_goes [] o h k n e x = refl
  run_goes (c ∷ cs) o h k n e x =
      let q = first_not F.empties (seen M c o) (course M cs (M.after c o)) x in
      let s = goes_on (placed c o h) q.0 n e in
      let l : List Write = of F.written (seen M c o) in
      let m : List Write = all F.written (course M cs (M.after c o)) in
      run_goes cs (M.after c o) (kept c o h k.0) k.1 (n + bytes_of l) s.1 q.1
      ∙ ap (filled F.mark (n + bytes_of l) m) s.0
      ∙ sym (filled_more F.mark n l m (F.store (M.stands o)))

pub filled_since : {World Call Said : Type 0} (M : Machine World Call Said) (F : Filling World Call Said) → FromCalls M F
filled_since M F kept none placed c cs o h j k e x =
    let b = begins_anew (placed c o h) e (none c o e) in
    run_goes M F kept placed cs (M.after c o) (kept c o h j) k 0 b.1 x ∙ ap (filled F.mark 0 (all F.written (course M cs (M.after c o)))) b.0
