-- Stores that go round wrongly are not as the ring by the remainder. Each is tried on a store of three places, and one on the largest. Assumes
-- nothing.
use Prim.Native.Nat.{ℕ, ◌<◌, ◌≤◌}
use native.Mathlib.Omega.{arith}
use mathlib.Core.Path.{◌≡◌, refl, ap}
use mathlib.Core.List.{List, [], ◌∷◌}
use lib.ListN.{get_or}
use Rattle.store.specs.declared.Ring.{Ring}
use Rattle.store.specs.Ring.{Within, Fit}
use Rattle.places.specs.GoingRound.{GoingRound, by_remainder, AsByRemainder, AllByRemainder}
use Rattle.places.specs.WrongGoingRound.{late, masked, to_the_second, by_equality, signed, at_the_largest}
use Rattle.places.specs.WrongGoingRound.{store_by, going_by, drops_by_equality, replaces_the_oldest, silent, stops_at_the_end}

-- a store that 1, 2 and 3 stand in, of which len are held from this place on
abbrev one_to_three : List ℕ
one_to_three = 1 ∷ 2 ∷ 3 ∷ []

abbrev ring_of_three : ℕ → ℕ → Ring
ring_of_three oldest len = record { cap = 3; oldest = oldest; len = len }

within : (oldest len : ℕ) → oldest < 3 → len ≤ 3 → Within (ring_of_three oldest len)
within oldest len h k = record { oldest = h; len = k; small = omega arith }

fits : (oldest len : ℕ) → oldest < 3 → len ≤ 3 → Fit one_to_three (ring_of_three oldest len)
fits oldest len h k = record { cap = refl; within = within oldest len h k }

-- 2 and 3 are held, 4 is stored, and stands nowhere: it is swallowed
pub late_falls : AsByRemainder (going_by late) → ⊥
late_falls law =
    let p = law.put one_to_three (ring_of_three 1 2) 4 _ _ (fits 1 2 (omega arith) (omega arith)) (refl, refl) in
    let z : ◌≡◌ {A = ℕ} 1 4 = ap (λ (l : List ℕ). get_or l 0 0) p.0 in
    omega (arith, z)

-- 1 and 2 are held, and the mark of 2 stands at 1
pub replaces_falls : AsByRemainder replaces_the_oldest → ⊥
replaces_falls law =
    let p = law.replaced one_to_three (ring_of_three 0 2) 4 _ (fits 0 2 (omega arith) (omega arith)) (omega arith) refl in
    let z : ◌≡◌ {A = ℕ} 4 1 = ap (λ (l : List ℕ). get_or l 0 0) p in
    omega (arith, z)

-- 1 and 2 are held, and the second is read as 1
pub masked_falls : AsByRemainder (going_by masked) → ⊥
masked_falls law =
    let z : ◌≡◌ {A = ℕ} 1 2 = law.look one_to_three (ring_of_three 0 2) 1 _ (fits 0 2 (omega arith) (omega arith)) (omega arith) refl in
    omega (arith, z)

-- 3 is held and dropped, and the next would stand at the second place
pub to_the_second_falls : AsByRemainder (going_by to_the_second) → ⊥
to_the_second_falls law =
    let z : ◌≡◌ {A = ℕ} 1 0 = ap (λ (r : Ring). r.oldest) (law.dropped (ring_of_three 2 1) 1 _ (within 2 1 (omega arith) (omega arith)) (omega arith) refl) in
    omega (arith, z)

-- 3 and 1 are held and dropped, and the next would stand past the last place, in whatever way the other calls go round
equal_drop_falls : (g : GoingRound) → AsByRemainder (store_by g by_equality) → ⊥
equal_drop_falls g law =
    let z : ◌≡◌ {A = ℕ} 4 1 = ap (λ (r : Ring). r.oldest) (law.dropped (ring_of_three 2 2) 2 _ (within 2 2 (omega arith) (omega arith)) (omega arith) refl) in
    omega (arith, z)

pub by_equality_falls : AsByRemainder (going_by by_equality) → ⊥
by_equality_falls = equal_drop_falls by_equality

pub drops_by_equality_falls : AsByRemainder drops_by_equality → ⊥
drops_by_equality_falls = equal_drop_falls by_remainder

-- 3 is held, and the next would stand past the last place
pub at_the_largest_falls : AsByRemainder (going_by at_the_largest) → ⊥
at_the_largest_falls law =
    let z : ◌≡◌ {A = ℕ} 3 0 = law.place (ring_of_three 2 1) 1 _ (within 2 1 (omega arith) (omega arith)) (omega arith) refl in
    omega (arith, z)

-- the byte at the last of 32,768 places is held, and the next would stand past it
pub signed_falls : AsByRemainder (going_by signed) → ⊥
signed_falls law =
    let r : Ring = record { cap = 32768; oldest = 32767; len = 1 } in
    let z : ◌≡◌ {A = ℕ} 32768 0 = law.place r 1 _ (record { oldest = omega arith; len = omega arith; small = omega arith }) (omega arith) refl in
    omega (arith, z)

-- ---- all is given

pub silent_falls : AllByRemainder silent → ⊥
silent_falls law = law.place (ring_of_three 0 0) 0 (within 0 0 (omega arith) (omega arith)) (omega arith)

-- 3 is held, and its drop is not answered
pub stops_at_the_end_falls : AllByRemainder stops_at_the_end → ⊥
stops_at_the_end_falls law =
    let z : 3 < 3 = (law.dropped (ring_of_three 2 1) 1 (within 2 1 (omega arith) (omega arith)) (omega arith)).1 in
    omega (arith, z)
