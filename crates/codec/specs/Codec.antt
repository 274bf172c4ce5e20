-- How values stand in bytes: a codec writes a value as bytes and reads it from a place, and what it reads is what was written.
use Prim.{Unit, tt}
use Rattle.std.specs.Prelude.{ℕ, ◌+◌, ◌*◌, ◌/◌, ◌%◌, ◌<◌, ◌≡◌, refl, Bool, true, ◌&&◌, List, [], ◌∷◌, ◌++◌, length, get_or, eqb, leb}
use Rattle.std.proofs.Common.{sym, ap, subst, ◌∙◌, arith, length-append, eqb-true, eq-eqb}
use mir.Val.{bool_byte}
use Rattle.branches.proofs.Branches.{and_left, and_right}
use Rattle.store.specs.Bytes.{Bytes}
use Rattle.codec.specs.Standing.{At, at_one, one_at, at_first, at_second, at_both, at_four, four_at, bytes_both, bytes_one, bytes_four}
use Rattle.codec.specs.Standing.{flag_kept, flag_read, flag_right, flag_byte}

pub record Codec (X : Type 0) : Type 1 where
  -- how many bytes a value has, which they are, and which value bytes from a place are read as
  pub len : ℕ
  pub put : X → List ℕ
  pub get : List ℕ → ℕ → X
  -- whether the bytes from a place are ones that are written, and which values have room in theirs
  pub right : List ℕ → ℕ → Bool
  pub Ranged : X → Type 0
  -- the laws
  pub put_length : (x : X) → length (put x) ≡ len
  pub get_put : (b : List ℕ) (i : ℕ) (x : X) → Ranged x → At b i (put x) → get b i ≡ x
  pub put_get : (b : List ℕ) (i : ℕ) → Bytes b → right b i ≡ true → At b i (put (get b i))
  pub put_right : (b : List ℕ) (i : ℕ) (x : X) → At b i (put x) → right b i ≡ true
  pub get_ranged : (b : List ℕ) (i : ℕ) → Bytes b → Ranged (get b i)
  pub put_bytes : (x : X) → Ranged x → Bytes (put x)

-- a number in one byte
abbrev pub byte : Codec ℕ
byte =
    record {
      len = 1;
      put = λ x. x ∷ [];
      get = λ b i. get_or b i 0;
      right = λ b i. true;
      Ranged = λ x. x < 256;
      put_length = λ x. refl;
      get_put = λ b i x r h. one_at b i x h;
      put_get = λ b i h r. at_one b i (get_or b i 0) refl;
      put_right = λ b i x h. refl;
      get_ranged = λ b i h. h i;
      put_bytes = λ x h. bytes_one x h;
    }

-- a number in two bytes, low byte first
abbrev pub two : Codec ℕ
two =
    record {
      len = 2;
      put = λ x. x % 256 ∷ x / 256 % 256 ∷ [];
      get = λ b i. get_or b i 0 + 256 * get_or b (i + 1) 0;
      right = λ b i. true;
      Ranged = λ x. x < 65536;
      put_length = λ x. refl;
      get_put = λ b i x r h.
          let low : get_or b i 0 ≡ x % 256 = one_at b i (x % 256) (at_first b i (x % 256 ∷ []) (x / 256 % 256 ∷ []) h) in
          let high : get_or b (i + 1) 0 ≡ x / 256 % 256 = one_at b (i + 1) (x / 256 % 256) (at_second b i (x % 256 ∷ []) (x / 256 % 256 ∷ []) h) in
          omega arith;
      put_get = λ b i h r.
          let x = get_or b i 0 in
          let y = get_or b (i + 1) 0 in
          at_both b i ((x + 256 * y) % 256 ∷ []) ((x + 256 * y) / 256 % 256 ∷ [])
          (at_one b i _ (omega (arith, h i)))
          (at_one b (i + 1) _ (omega (arith, h i, h (i + 1))));
      put_right = λ b i x h. refl;
      get_ranged = λ b i h. omega (arith, h i, h (i + 1));
      put_bytes = λ x r. bytes_both (x % 256 ∷ []) (x / 256 % 256 ∷ []) (bytes_one (x % 256) (omega arith)) (bytes_one (x / 256 % 256) (omega arith));
    }

-- a number in four bytes, low byte first
abbrev pub four : Codec ℕ
four =
    record {
      len = 4;
      put = λ x. x % 256 ∷ x / 256 % 256 ∷ x / 65536 % 256 ∷ x / 16777216 % 256 ∷ [];
      get = λ b i. get_or b i 0 + 256 * get_or b (i + 1) 0 + 65536 * get_or b (i + 2) 0 + 16777216 * get_or b (i + 3) 0;
      right = λ b i. true;
      Ranged = λ x. x < 4294967296;
      put_length = λ x. refl;
      get_put = λ b i x r h. four_at b i x r h;
      put_get = λ b i h r.
          let p : get_or b i 0 < 256 = h i in
          let q : get_or b (i + 1) 0 < 256 = h (i + 1) in
          let s : get_or b (i + 2) 0 < 256 = h (i + 2) in
          let t : get_or b (i + 3) 0 < 256 = h (i + 3) in
          at_four b i _ _ _ _ (omega arith) (omega arith) (omega arith) (omega arith);
      put_right = λ b i x h. refl;
      get_ranged = λ b i h. omega (arith, h i, h (i + 1), h (i + 2), h (i + 3));
      put_bytes = λ x r. bytes_four _ _ _ _ (omega arith) (omega arith) (omega arith) (omega arith);
    }

-- a flag: 1 or 0, and nothing else is right; it is read by its lowest bit, which a machine has at hand
abbrev pub flag : Codec Bool
flag =
    record {
      len = 1;
      put = λ t. bool_byte t ∷ [];
      get = λ b i. eqb (get_or b i 0 % 2) 1;
      right = λ b i. leb (get_or b i 0) 1;
      Ranged = λ t. Unit;
      put_length = λ t. refl;
      get_put = λ b i t r h. flag_read t (get_or b i 0) (one_at b i (bool_byte t) h);
      put_get = λ b i h r. at_one b i _ (flag_kept (get_or b i 0) r);
      put_right = λ b i t h. flag_right t (get_or b i 0) (one_at b i (bool_byte t) h);
      get_ranged = λ b i h. tt;
      put_bytes = λ t r. bytes_one (bool_byte t) (flag_byte t);
    }

-- a byte that is always n, which says nothing of a value
abbrev pub mark : (n : ℕ) → n < 256 → Codec (Unit {0})
mark n small =
    record {
      len = 1;
      put = λ x. n ∷ [];
      get = λ b i. tt;
      right = λ b i. eqb (get_or b i 0) n;
      Ranged = λ x. Unit;
      put_length = λ x. refl;
      get_put = λ b i x r h. refl;
      put_get = λ b i h r. at_one b i n (eqb-true (get_or b i 0) n r);
      put_right = λ b i x h. eq-eqb (get_or b i 0) n (one_at b i n h);
      get_ranged = λ b i h. tt;
      put_bytes = λ x r. bytes_one n small;
    }

-- one value behind another; the second is tested first, so that `right` comes out as the tests alone
module _ {X Y : Type 0} (c : Codec X) (d : Codec Y) where
  pub second_at : (b : List ℕ) (i : ℕ) (x : X) (ys : List ℕ) → At b i (c.put x ++ ys) → At b (i + c.len) ys
  second_at b i x ys h = subst (λ (n : ℕ). At b (i + n) ys) (c.put_length x) (at_second b i (c.put x) ys h)

  abbrev pub pair : Codec (X × Y)
  pair =
      record {
        len = c.len + d.len;
        put = λ p. c.put p.0 ++ d.put p.1;
        get = λ b i. (c.get b i, d.get b (i + c.len));
        right = λ b i. d.right b (i + c.len) && c.right b i;
        Ranged = λ p. c.Ranged p.0 × d.Ranged p.1;
        put_length = λ p. length-append (c.put p.0) (d.put p.1) ∙ (λ j. c.put_length p.0 j + d.put_length p.1 j);
        get_put = λ b i p r h. λ j. (
          c.get_put b i p.0 r.0 (at_first b i (c.put p.0) (d.put p.1) h) j,
          d.get_put b (i + c.len) p.1 r.1 (second_at b i p.0 (d.put p.1) h) j,
        );
        put_get = λ b i h r.
            let x = c.get b i in
            let y = d.get b (i + c.len) in
            at_both b i (c.put x) (d.put y)
            (c.put_get b i h (and_right (d.right b (i + c.len)) _ r))
            (subst (λ (n : ℕ). At b (i + n) (d.put y)) (sym (c.put_length x)) (d.put_get b (i + c.len) h (and_left _ (c.right b i) r)));
        put_right = λ b i p h.
            rw (
              c.put_right b i p.0 (at_first b i (c.put p.0) (d.put p.1) h),
              d.put_right b (i + c.len) p.1 (second_at b i p.0 (d.put p.1) h),
            );
        get_ranged = λ b i h. (c.get_ranged b i h, d.get_ranged b (i + c.len) h);
        put_bytes = λ p r. bytes_both (c.put p.0) (d.put p.1) (c.put_bytes p.0 r.0) (d.put_bytes p.1 r.1);
      }

-- a value through another that says the same
module _ {X Y : Type 0} (c : Codec X) (to : X → Y) (from : Y → X) (there : (y : Y) → to (from y) ≡ y) (back : (x : X) → from (to x) ≡ x) where
  abbrev pub through : Codec Y
  through =
      record {
        len = c.len;
        put = λ y. c.put (from y);
        get = λ b i. to (c.get b i);
        right = c.right;
        Ranged = λ y. c.Ranged (from y);
        put_length = λ y. c.put_length (from y);
        get_put = λ b i y r h. ap to (c.get_put b i (from y) r h) ∙ there y;
        put_get = λ b i h r. subst (λ (x : X). At b i (c.put x)) (sym (back (c.get b i))) (c.put_get b i h r);
        put_right = λ b i y h. c.put_right b i (from y) h;
        get_ranged = λ b i h. subst c.Ranged (sym (back (c.get b i))) (c.get_ranged b i h);
        put_bytes = λ y r. c.put_bytes (from y) r;
      }

-- ---- a table of fields

infixl 20 ◌▸◌
-- the fields of an S in the order of their bytes, the X that is made of them, and whether each starts where the bytes before it end
pub record Rows (S X : Type 0) : Type 1 where
  pub Fields : Type 0
  pub codec : Codec Fields
  pub fields : S → Fields
  pub made : Fields → X
  pub placed : Bool

-- a field: the place where it starts, how it stands in bytes, and which part of an S it is
pub record Row (S A : Type 0) : Type 1 where
  pub place : ℕ
  pub kind : Codec A
  pub path : S → A

abbrev pub field : {S A : Type 0} → ℕ → Codec A → (S → A) → Row S A
field n k p = record { place = n; kind = k; path = p }

-- a table starts with a mark and goes on with a field
abbrev pub marked : {S X : Type 0} (n : ℕ) → n < 256 → X → Rows S X
marked n small f = record { Fields = Unit; codec = mark n small; fields = λ s. tt; made = λ p. f; placed = true }

abbrev pub ◌▸◌ : {S A X : Type 0} → Rows S (A → X) → Row S A → Rows S X
◌▸◌ {A = A} rows row =
    record {
      Fields = rows.Fields × A;
      codec = pair rows.codec row.kind;
      fields = λ s. (rows.fields s, row.path s);
      made = λ p. rows.made p.0 p.1;
      placed = eqb rows.codec.len row.place && rows.placed;
    }
