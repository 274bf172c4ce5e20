-- Sizes and refusals, places, of any machine with a store: of every call, and over a run.
use Rattle.std.specs.Prelude.{ℕ, ◌+◌, ◌%◌, ◌≡◌, Bool, true, List, [], ◌∷◌, length, set}
use Rattle.machine.specs.Course.{of, end, all, Without}
use Rattle.machine.specs.Machine.{Machine, Law, of_calls, of_since, seen, Obeys}
use Rattle.store.specs.declared.Ring.{Ring}
use Rattle.places.specs.OneStore.{Write, anew, again, place_before, marked_at, Placed}

-- a store of a machine: what stands in it, the ring that is recorded of it, what a call writes in it and what its marks are, and whether a
-- call empties it
pub record Filling (World Call Said : Type 0) : Type 0 where
  pub store : World → List ℕ
  pub ring : World → Ring
  pub written : Call → World → Said → List Write
  pub mark : ℕ → ℕ
  pub empties : Call → World → Said → Bool

-- of every call, by the ring that is recorded
abbrev pub PlacedByCalls : {World Call Said : Type 0} → Filling World Call Said → Law World Call Said
PlacedByCalls F =
    of_calls
    (λ s. Placed F.mark (of F.empties s) (of F.written s) (F.store s.before) (F.ring s.before) (F.store s.after) (F.ring s.after))

-- ---- since the store was emptied, by what was written and by no place that is recorded

-- the store with these written in it, where n bytes came before them: the n-th, from 0, is written at the remainder of n by the length, and a
-- mark goes to the place before the next one's
unfoldable pub filled : (ℕ → ℕ) → ℕ → List Write → List ℕ → List ℕ
filled mark n [] s = s
filled mark n (anew b ∷ l) s = filled mark (n + 1) l (set s (n % length s) b)
filled mark n (again ∷ l) s = filled mark n l (marked_at mark (place_before (length s) (n % length s)) s)

-- since a call that empties the store, and none after it: each byte was written at its place and each mark into the newest, and nothing
-- else was written, not even by the call that empties
abbrev pub FilledSince : {World Call Said : Type 0} → Filling World Call Said → Law World Call Said
FilledSince F =
    of_since
    (λ s ss. of F.empties s ≡ true → Without F.empties ss →
    F.store (end s.after ss) ≡ filled F.mark 0 (all F.written ss) (F.store s.before))

-- from every call to the run, where what the types give goes on and a call that empties the store writes nothing
abbrev pub FromCalls : {World Call Said : Type 0} → Machine World Call Said → Filling World Call Said → Type 0
FromCalls {World} {Call} {Said} M F =
    ((c : Call) (o : M.Own) → M.Fine o → M.Fair c → M.Fine (M.after c o)) →
    ((c : Call) (o : M.Own) → of F.empties (seen M c o) ≡ true → of F.written (seen M c o) ≡ []) →
    Obeys M (PlacedByCalls F) → Obeys M (FilledSince F)
