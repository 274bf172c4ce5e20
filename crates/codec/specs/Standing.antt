-- Bytes that stand in a block from a place, and what the laws of the codecs rest on. Assumes nothing.
use Rattle.std.specs.Prelude.{ℕ, zero, suc, ◌+◌, ◌*◌, ◌-◌, ◌/◌, ◌%◌, ◌≤◌, ◌<◌, ◌≡◌, refl, Bool, true, false, List, [], ◌∷◌, ◌++◌, length, get_or, eqb, leb}
use Rattle.std.proofs.Common.{sym, ap, ◌∙◌, ⊎_elim, arith, zero-add, add-zero, add_assoc, length-append, get_or-append-add, ext_get_or, leb-true}
use Rattle.std.proofs.Math.Nat.{div-div-eq-div-mul}
use Rattle.std.proofs.Math.ListN.{get_or-append}
use mir.Val.{bool_byte}
use Rattle.branches.proofs.Branches.{split}
use Rattle.store.specs.Bytes.{Bytes}

-- these bytes stand in b from place i
abbrev pub At : List ℕ → ℕ → List ℕ → Type 0
At b i xs = (k : ℕ) → k < length xs → get_or b (i + k) 0 ≡ get_or xs k 0

-- a list stands in itself, and a list as long as one that stands in it is that one
pub at_self : (xs : List ℕ) → At xs 0 xs
at_self xs k l = ap (λ (n : ℕ). get_or xs n 0) (zero-add k)

pub at_all : (b xs : List ℕ) → At b 0 xs → length xs ≡ length b → xs ≡ b
at_all b xs h e = ext_get_or 0 xs b e (λ k l. sym (h k l) ∙ ap (λ (n : ℕ). get_or b n 0) (zero-add k))

-- one byte
module _ (b : List ℕ) (i x : ℕ) where
  pub at_one : get_or b i 0 ≡ x → At b i (x ∷ [])
  at_one e zero l = ap (λ (n : ℕ). get_or b n 0) (add-zero i) ∙ e
  at_one e (suc k) l = absurd (omega arith)

  pub one_at : At b i (x ∷ []) → get_or b i 0 ≡ x
  one_at h = ap (λ (n : ℕ). get_or b n 0) (sym (add-zero i)) ∙ h 0 (omega arith)

-- one list behind another
module _ (b : List ℕ) (i : ℕ) (xs ys : List ℕ) where
  pub at_first : At b i (xs ++ ys) → At b i xs
  at_first h k l = h k (omega (arith, length-append xs ys)) ∙ get_or-append xs ys 0 k l

  pub at_second : At b i (xs ++ ys) → At b (i + length xs) ys
  at_second h k l =
      ap (λ (n : ℕ). get_or b n 0) (add_assoc i (length xs) k) ∙ h (length xs + k) (omega (arith, length-append xs ys)) ∙ get_or-append-add xs ys k 0

  pub at_both : At b i xs → At b (i + length xs) ys → At b i (xs ++ ys)
  at_both p q k l = ⊎_elim (λ low. p k low ∙ sym (get_or-append xs ys 0 k low)) behind (split k (length xs))
    where
      behind : length xs ≤ k → get_or b (i + k) 0 ≡ get_or (xs ++ ys) k 0
      behind h =
          let j = k - length xs in
          let e : k ≡ length xs + j = omega arith in
          let f : i + k ≡ i + length xs + j = omega arith in
          let there : get_or b (i + length xs + j) 0 ≡ get_or ys j 0 = q j (omega (arith, length-append xs ys)) in
          ap (λ (n : ℕ). get_or b n 0) f ∙ there ∙ sym (get_or-append-add xs ys j 0) ∙ ap (λ (n : ℕ). get_or (xs ++ ys) n 0) (sym e)

-- bytes behind bytes are bytes
pub bytes_both : (xs ys : List ℕ) → Bytes xs → Bytes ys → Bytes (xs ++ ys)
bytes_both [] ys p q k = q k
bytes_both (x ∷ xs) ys p q zero = p 0
bytes_both (x ∷ xs) ys p q (suc k) = bytes_both xs ys (λ n. p (suc n)) q k

pub bytes_one : (x : ℕ) → x < 256 → Bytes (x ∷ [])
bytes_one x h zero = h
bytes_one x h (suc k) = omega arith

-- ---- four bytes of a number

module _ (b : List ℕ) (i x y z w : ℕ) where
  pub at_four : get_or b i 0 ≡ x → get_or b (i + 1) 0 ≡ y → get_or b (i + 2) 0 ≡ z → get_or b (i + 3) 0 ≡ w → At b i (x ∷ y ∷ z ∷ w ∷ [])
  at_four p q r t =
      let e : i + 2 + 1 ≡ i + 3 = omega arith in
      at_both b i (x ∷ y ∷ []) (z ∷ w ∷ [])
      (at_both b i (x ∷ []) (y ∷ []) (at_one b i x p) (at_one b (i + 1) y q))
      (at_both b (i + 2) (z ∷ []) (w ∷ []) (at_one b (i + 2) z r) (at_one b (i + 2 + 1) w (ap (λ (n : ℕ). get_or b n 0) e ∙ t)))

pub bytes_four : (x y z w : ℕ) → x < 256 → y < 256 → z < 256 → w < 256 → Bytes (x ∷ y ∷ z ∷ w ∷ [])
bytes_four x y z w p q r t =
    bytes_both (x ∷ []) (y ∷ z ∷ w ∷ []) (bytes_one x p)
    (bytes_both (y ∷ []) (z ∷ w ∷ []) (bytes_one y q) (bytes_both (z ∷ []) (w ∷ []) (bytes_one z r) (bytes_one w t)))

join32 : (x : ℕ) → x < 4294967296 → x % 256 + 256 * (x / 256 % 256) + 65536 * (x / 65536 % 256) + 16777216 * (x / 16777216 % 256) ≡ x
join32 x h =
    let q = x / 256 in
    let r = q / 256 in
    let t = r / 256 in
    let a : x / 65536 ≡ r = sym (div-div-eq-div-mul x 256 256) in
    let b : x / 16777216 ≡ t = sym (ap (λ (k : ℕ). k / 256) (div-div-eq-div-mul x 256 256) ∙ div-div-eq-div-mul x 65536 256) in
    let e : q / 256 % 256 + 256 * t ≡ r = omega arith in
    let f : t % 256 ≡ t = omega arith in
    let g : q % 256 + 256 * r ≡ q = omega arith in
    let k : x % 256 + 256 * q ≡ x = omega arith in
    rw (a, b, f) (omega arith)

pub four_at : (b : List ℕ) (i x : ℕ) → x < 4294967296 → At b i (x % 256 ∷ x / 256 % 256 ∷ x / 65536 % 256 ∷ x / 16777216 % 256 ∷ []) →
    get_or b i 0 + 256 * get_or b (i + 1) 0 + 65536 * get_or b (i + 2) 0 + 16777216 * get_or b (i + 3) 0 ≡ x
four_at b i x r h =
    let first : get_or b i 0 ≡ x % 256 = ap (λ (n : ℕ). get_or b n 0) (sym (add-zero i)) ∙ h 0 (omega arith) in
    let second : get_or b (i + 1) 0 ≡ x / 256 % 256 = h 1 (omega arith) in
    let third : get_or b (i + 2) 0 ≡ x / 65536 % 256 = h 2 (omega arith) in
    let last : get_or b (i + 3) 0 ≡ x / 16777216 % 256 = h 3 (omega arith) in
    rw (first, second, third, last) (join32 x r)

-- ---- the byte of a flag

pub flag_kept : (x : ℕ) → leb x 1 ≡ true → x ≡ bool_byte (eqb (x % 2) 1)
flag_kept zero h = refl
flag_kept (suc zero) h = refl
flag_kept (suc (suc x)) h = let e : suc (suc x) ≤ 1 = leb-true (suc (suc x)) 1 h in absurd (omega arith)

pub flag_read : (t : Bool) (x : ℕ) → x ≡ bool_byte t → eqb (x % 2) 1 ≡ t
flag_read true x e = rw e
flag_read false x e = rw e

pub flag_right : (t : Bool) (x : ℕ) → x ≡ bool_byte t → leb x 1 ≡ true
flag_right true x e = rw e
flag_right false x e = rw e

pub flag_byte : (t : Bool) → bool_byte t < 256
flag_byte true = omega arith
flag_byte false = omega arith
