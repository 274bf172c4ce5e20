-- What a caller may use of frames: the parts of a made frame, and what the service bit leaves alone. Assumes nothing.
use Prim.Native.Nat.{ℕ, ◌+◌, ◌*◌, ◌/◌, ◌%◌, ◌<◌}
use mathlib.Core.Path.{◌≡◌, ap}
use mathlib.Core.Bool.{true, false}
use native.Mathlib.Omega.{arith}
use lib.Dec.{eqb}
use borrow.Author.Tests.{eqb-true, eqb-false, eq-eqb, ltb-true, lt-ltb}
use Rattle.branches.proofs.Branches.{same_test}
use Rattle.frame.specs.Frame.{control_of, data_of, made, is_data, is_end, has_service, stripped, with_service, same_apart}

-- ---- parts

pub control_made : (c d : ℕ) → d < 256 → control_of (made c d) ≡ c
control_made c d h = omega arith

pub data_made : (c d : ℕ) → d < 256 → data_of (made c d) ≡ d
data_made c d h = omega arith

pub made_parts : (f : ℕ) → made (control_of f) (data_of f) ≡ f
made_parts f = omega arith

pub data_small : (f : ℕ) → data_of f < 256
data_small f = omega arith

pub made_small : (c d : ℕ) → c < 8 → d < 256 → made c d < 2048
made_small c d h k = omega arith

-- ---- setting the service bit changes neither data nor kind

pub control_service : (f : ℕ) → control_of (with_service f) ≡ control_of f / 2 * 2 + 1
unfolding with_service
control_service f = omega arith

pub data_service : (f : ℕ) → data_of (with_service f) ≡ data_of f
unfolding with_service
data_service f = omega arith

pub end_service : (f : ℕ) → is_end (with_service f) ≡ is_end f
unfolding with_service
end_service f =
    let e : control_of (with_service f) / 2 ≡ control_of f / 2 = omega arith in
    ap (λ (n : ℕ). eqb n 1) e

pub kind_service : (f : ℕ) → is_data (with_service f) ≡ is_data f
unfolding with_service
kind_service f =
    same_test (is_data (with_service f)) (is_data f)
    (λ e. lt-ltb (control_of f) 4 (omega (arith, ltb-true (control_of (with_service f)) 4 e)))
    (λ e. lt-ltb (control_of (with_service f)) 4 (omega (arith, ltb-true (control_of f) 4 e)))

pub service_set : (f : ℕ) → has_service (with_service f) ≡ true
unfolding with_service
service_set f = eq-eqb (control_of (with_service f) % 2) 1 (omega arith)

pub service_small : (f : ℕ) → f < 2048 → with_service f < 2048
unfolding with_service
service_small f h = omega arith

-- ---- stripping

pub stripped_service : (f : ℕ) → stripped (with_service f) ≡ stripped f
unfolding stripped with_service
stripped_service f = omega arith

pub stripped_twice : (f : ℕ) → stripped (stripped f) ≡ stripped f
unfolding stripped
stripped_twice f = omega arith

pub stripped_bare : (f : ℕ) → has_service f ≡ false → stripped f ≡ f
unfolding stripped
stripped_bare f e = omega (arith, eqb-false (f / 256 % 2) 1 e)

-- ---- equal but for the service bit

pub same_stripped : (f g : ℕ) → same_apart f g ≡ true → stripped f ≡ stripped g
unfolding same_apart
same_stripped f g e = eqb-true _ _ e

pub stripped_same : (f g : ℕ) → stripped f ≡ stripped g → same_apart f g ≡ true
unfolding same_apart
stripped_same f g e = eq-eqb _ _ e

pub same_service : (f g : ℕ) → same_apart (with_service f) g ≡ same_apart f g
unfolding same_apart
same_service f g = ap (λ (n : ℕ). eqb n (stripped g)) (stripped_service f)
