-- The mask of the service bit, in terms of / and %. Assumes nothing.
use Prim.Native.Nat.{ℕ, ◌*◌, ◌/◌, ◌%◌}
use mathlib.Core.Path.{◌≡◌, refl}
use mathlib.Core.Bool.{Bool, true, false, not}
use native.Mathlib.Omega.{arith}
use lib.Bits.{bit_and, bit_or, and_high, or_add_and}
use lib.Dec.{eqb}
use borrow.Author.Tests.{eqb-true, eqb-false, eq-eqb, ne_eqb}
use Rattle.branches.proofs.Branches.{same_test}
use Rattle.frame.specs.Frame.{has_service, stripped, with_service, same_apart}

-- the mask of the service bit
pub and_service : (f : ℕ) → bit_and f 256 ≡ f / 256 % 2 * 256
and_service f = and_high f 1 8

pub or_service : (f : ℕ) → bit_or f 256 ≡ with_service f
unfolding with_service
or_service f = omega (arith, and_service f, or_add_and f 256)

pub test_service : (f : ℕ) → not (eqb (bit_and f 256) 0) ≡ has_service f
test_service f = go (has_service f) refl
  where
    go : (t : Bool) → has_service f ≡ t → not (eqb (bit_and f 256) 0) ≡ t
    go true e = rw (ne_eqb (bit_and f 256) 0 (omega (arith, eqb-true (f / 256 % 2) 1 e, and_service f)))
    go false e = rw (eq-eqb (bit_and f 256) 0 (omega (arith, eqb-false (f / 256 % 2) 1 e, and_service f)))

pub test_same : (f g : ℕ) → eqb (bit_or f 256) (bit_or g 256) ≡ same_apart f g
unfolding same_apart stripped with_service
test_same f g =
    same_test (eqb (bit_or f 256) (bit_or g 256)) (same_apart f g)
    (λ e. eq-eqb (stripped f) (stripped g) (omega (arith, eqb-true (bit_or f 256) (bit_or g 256) e, or_service f, or_service g)))
    (λ e. eq-eqb (bit_or f 256) (bit_or g 256) (omega (arith, eqb-true (stripped f) (stripped g) e, or_service f, or_service g)))
