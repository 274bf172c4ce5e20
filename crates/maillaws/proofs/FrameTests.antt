-- What the tests of frames tell of each other, and what an answer carries. Assumes nothing.
use Prim.Native.Nat.{ℕ, ◌+◌, ◌*◌, ◌/◌, ◌%◌, ◌<◌, ◌≤◌}
use native.Mathlib.Omega.{arith}
use mathlib.Core.Path.{◌≡◌, refl, sym, subst, ◌∙◌}
use mathlib.Core.Bool.{Bool, true, false, cond, ◌&&◌}
use mathlib.Core.List.{[], ◌∷◌}
use lib.Dec.{eqb, leb, ltb}
use borrow.Author.Tests.{eqb-true, eqb-false, eq-eqb, ne_eqb, ltb-true, lt-ltb, le-leb, lt-leb}
use Rattle.branches.proofs.Branches.{by_cond, and_left, and_right, same_test}
use Rattle.frame.specs.Frame.{control_of, data_of, made, is_data, with_service}
use Rattle.answers.specs.Answers.{frame}
use Rattle.mailloop.specs.Sends.{marked, frame_of}
use Rattle.maillaws.specs.Sights.{counted, data_cell, data_byte}

-- ---- which frame it is

-- a frame of this control and this byte, by both
pub frame_is : (f k d : ℕ) → d < 256 → eqb f (made k d) ≡ (eqb (control_of f) k && eqb (data_of f) d)
frame_is f k d h = same_test _ _ there back
  where
    there : eqb f (made k d) ≡ true → (eqb (control_of f) k && eqb (data_of f) d) ≡ true
    there e =
        let p : f ≡ k * 256 + d = eqb-true f (made k d) e in
        rw (eq-eqb (f / 256) k (omega arith), eq-eqb (f % 256) d (omega arith))

    back : (eqb (control_of f) k && eqb (data_of f) d) ≡ true → eqb f (made k d) ≡ true
    back e =
        let p : f / 256 ≡ k = eqb-true (f / 256) k (and_left _ _ e) in
        let q : f % 256 ≡ d = eqb-true (f % 256) d (and_right (eqb (f / 256) k) _ e) in
        eq-eqb f (made k d) (omega arith)

-- a data frame has a control below 4, and so is no command and no ready frame
pub data_control : (f : ℕ) → is_data f ≡ true → f / 256 < 4
data_control f e = ltb-true (f / 256) 4 e

pub data_not : (f k : ℕ) → is_data f ≡ true → 4 ≤ k → eqb (control_of f) k ≡ false
data_not f k e h = ne_eqb (f / 256) k (λ p. omega (arith, data_control f e))

pub data_no_frame : (f k d : ℕ) → is_data f ≡ true → 4 ≤ k → d < 256 → eqb f (made k d) ≡ false
data_no_frame f k d e h l = frame_is f k d l ∙ (λ i. data_not f k e h i && eqb (data_of f) d)

-- one control is no other, and one byte no other
pub other_control : (f k m : ℕ) → eqb (control_of f) k ≡ true → (k ≡ m → ⊥) → eqb (control_of f) m ≡ false
other_control f k m e h = ne_eqb (f / 256) m (λ p. h (sym (eqb-true (f / 256) k e) ∙ p))

pub other_byte : (f d m : ℕ) → eqb (data_of f) d ≡ true → (d ≡ m → ⊥) → eqb (data_of f) m ≡ false
other_byte f d m e h = ne_eqb (f % 256) m (λ p. h (sym (eqb-true (f % 256) d e) ∙ p))

pub no_frame_by_control : (f k d : ℕ) → d < 256 → eqb (control_of f) k ≡ false → eqb f (made k d) ≡ false
no_frame_by_control f k d l e = frame_is f k d l ∙ (λ i. e i && eqb (data_of f) d)

pub no_frame_by_byte : (f k d : ℕ) → d < 256 → eqb (data_of f) d ≡ false → eqb f (made k d) ≡ false
no_frame_by_byte f k d l e = frame_is f k d l ∙ (λ i. eqb (control_of f) k && e i) ∙ and_false (eqb (control_of f) k)
  where
    and_false : (t : Bool) → (t && false) ≡ false
    and_false true = refl
    and_false false = refl

-- ---- choices that come to the same

pub either_same : {A : Type 0} (t : Bool) (x : A) → cond t x x ≡ x
either_same true x = refl
either_same false x = refl

-- ---- what a frame out carries

-- the frame of a cell, with the service bit or without
pub cell_carried : (t : Bool) (c g : ℕ) → g ≡ cond t (with_service (frame_of c)) (frame_of c) → data_cell (frame (control_of g) (data_of g)) ≡ counted c ∷ []
unfolding with_service
cell_carried t c g e =
    subst Cell (sym e)
    (by_cond (λ (k : ℕ). Cell (cond t (with_service (made k (c % 256))) (made k (c % 256)))) (marked c) 2 0
    (λ m. let o = eqb-true (c / 256 % 2) 1 m in
    by_cond Cell t _ _ (λ _. ending (with_service (made 2 (c % 256))) (omega arith) (omega arith) (omega arith))
    (λ _. ending (made 2 (c % 256)) (omega arith) (omega arith) (omega arith)))
    (λ m. let o = eqb-false (c / 256 % 2) 1 m in
    by_cond Cell t _ _ (λ _. plain (with_service (made 0 (c % 256))) (omega arith) (omega arith)) (λ _. plain (made 0 (c % 256)) (omega arith) (omega arith))))
  where
    Cell : ℕ → Type 0
    Cell g = data_cell (frame (control_of g) (data_of g)) ≡ counted c ∷ []

    ending : (g : ℕ) → g / 256 < 4 → 2 ≤ g / 256 → g % 256 + 256 ≡ c % 512 → Cell g
    ending g h k e = rw (lt-ltb (g / 256) 4 h, le-leb 2 (g / 256) k, e)

    plain : (g : ℕ) → g / 256 < 2 → g % 256 ≡ c % 512 → Cell g
    plain g h e = rw (lt-ltb (g / 256) 4 (omega arith), lt-leb 2 (g / 256) h, e)

-- the byte of a data frame that we send, with the service bit or without
pub byte_carried : (t : Bool) (b g : ℕ) → b < 256 → g ≡ cond t (with_service (made 0 b)) (made 0 b) → data_byte (frame (control_of g) (data_of g)) ≡ b ∷ []
unfolding with_service
byte_carried t b g l e =
    subst Byte (sym e) (by_cond Byte t _ _ (λ _. seen (with_service (made 0 b)) (omega arith) (omega arith)) (λ _. seen (made 0 b) (omega arith) (omega arith)))
  where
    Byte : ℕ → Type 0
    Byte g = data_byte (frame (control_of g) (data_of g)) ≡ b ∷ []

    seen : (g : ℕ) → g / 256 < 4 → g % 256 ≡ b → Byte g
    seen g h k = rw (lt-ltb (g / 256) 4 h, k)

-- a frame out that is no data frame carries nothing
pub no_cell : (k d : ℕ) → ltb k 4 ≡ false → (data_cell (frame k d) ≡ []) × (data_byte (frame k d) ≡ [])
no_cell k d e = ((λ i. cond (e i) (cond (leb 2 k) (d + 256) d ∷ []) []), (λ i. cond (e i) (d ∷ []) []))
