-- What is held, spread out into bytes and breaks, and what a part of it stands for. Assumes nothing.
use Prim.Native.Nat.{ℕ, zero, suc, ◌+◌, ◌-◌, ◌*◌, ◌%◌, ◌/◌, ◌≤◌, ◌<◌}
use native.Mathlib.Omega.{arith}
use native.Mathlib.Nat.{mul-add-mod_self_left}
use mathlib.Core.Path.{◌≡◌, refl, sym, ap, ◌∙◌}
use mathlib.Core.Bool.{Bool, true, false, cond}
use mathlib.Core.Logic.{◌⊎◌, inl, inr, ⊎_elim}
use mathlib.Core.List.{List, [], ◌∷◌, ◌++◌, map}
use lib.Dec.{eqb}
use lib.ListN.{length, drop, set, get_or}
use borrow.Author.Tests.{eq-eqb, ne_eqb}
use Rattle.reading.specs.declared.Item.{Item}
use Rattle.reading.specs.Received.{Received, a_byte, a_break, item_of, OnlyNineBits, marked_cell, received, received_in, bytes_in, as_held}

-- as many bytes as items
pub bytes_received : (xs : List Item) → bytes_in (received xs) ≡ length xs
unfolding bytes_in received
bytes_received [] = refl
bytes_received (x ∷ xs) = go x.broken (bytes_received xs)
  where
    go : (t : Bool) → bytes_in (received xs) ≡ length xs → bytes_in (a_byte x.byte ∷ cond t (a_break ∷ received xs) (received xs)) ≡ suc (length xs)
    go true ih = ap suc ih
    go false ih = ap suc ih

-- a byte before what is held already
held_behind : (b : ℕ) (xs : List Item) → as_held (a_byte b ∷ received xs) ≡ a_byte b ∷ as_held (received xs)
unfolding as_held received
held_behind b [] = refl
held_behind b (x ∷ xs) = refl

-- it is as cells can hold it
pub received_held : (xs : List Item) → as_held (received xs) ≡ received xs
unfolding as_held received
received_held [] = refl
received_held (x ∷ xs) = go x.broken (received_held xs)
  where
    go : (t : Bool) → as_held (received xs) ≡ received xs →
        as_held (a_byte x.byte ∷ cond t (a_break ∷ received xs) (received xs)) ≡ a_byte x.byte ∷ cond t (a_break ∷ received xs) (received xs)
    go true ih = ap (λ (l : List Received). a_byte x.byte ∷ a_break ∷ l) ih
    go false ih = held_behind x.byte xs ∙ ap (λ (l : List Received). a_byte x.byte ∷ l) ih

pub fewer_left : (n : ℕ) (xs : List Received) → bytes_in (drop n xs) ≤ bytes_in xs
unfolding bytes_in
fewer_left zero xs = omega arith
fewer_left (suc n) [] = omega arith
fewer_left (suc n) (a_byte b ∷ xs) = omega (arith, fewer_left n xs)
fewer_left (suc n) (a_break ∷ xs) = fewer_left n xs

-- a part of the newest: what as many items stand for, and before it the break of an item that is gone, or none
abbrev Part : List Item → List Received → Type 0
Part xs ys = (ys ≡ received (drop (length xs - bytes_in ys) xs)) ⊎ (ys ≡ a_break ∷ received (drop (length xs - bytes_in ys) xs))

pub newest_part : (xs : List Item) (n : ℕ) → Part xs (drop n (received xs))
unfolding bytes_in received
newest_part [] zero = inl refl
newest_part [] (suc n) = inl refl
newest_part (x ∷ xs) zero =
    let e : 0 ≡ length (x ∷ xs) - bytes_in (received (x ∷ xs)) = omega (arith, bytes_received (x ∷ xs)) in
    inl (ap (λ (k : ℕ). received (drop k (x ∷ xs))) e)
newest_part (x ∷ xs) (suc n) = go x.broken n (newest_part xs)
  where
    -- the item is among those removed
    one_more : (n : ℕ) → Part xs (drop n (received xs)) → Part (x ∷ xs) (drop n (received xs))
    one_more n =
        let h : bytes_in (drop n (received xs)) ≤ length xs = omega (arith, fewer_left n (received xs), bytes_received xs) in
        let e : suc (length xs - bytes_in (drop n (received xs))) ≡ suc (length xs) - bytes_in (drop n (received xs)) = omega arith in
        ⊎_elim
        (λ p. inl (p ∙ ap (λ (k : ℕ). received (drop k (x ∷ xs))) e))
        (λ p. inr (p ∙ ap (λ (k : ℕ). a_break ∷ received (drop k (x ∷ xs))) e))

    go : (t : Bool) (n : ℕ) → ((k : ℕ) → Part xs (drop k (received xs))) → Part (x ∷ xs) (drop n (cond t (a_break ∷ received xs) (received xs)))
    go false n ih = one_more n (ih n)
    go true zero ih =
        let e : 1 ≡ suc (length xs) - bytes_in (received xs) = omega (arith, bytes_received xs) in
        inr (ap (λ (k : ℕ). a_break ∷ received (drop k (x ∷ xs))) e)
    go true (suc n) ih = one_more n (ih n)

-- as cells can hold it, it is what as many items stand for
pub part_held : (xs : List Item) (n : ℕ) → as_held (drop n (received xs)) ≡ received (drop (length xs - bytes_in (drop n (received xs))) xs)
unfolding as_held
part_held xs n =
    let k : ℕ = length xs - bytes_in (drop n (received xs)) in
    ⊎_elim (λ p. ap as_held p ∙ received_held (drop k xs)) (λ p. ap as_held p ∙ received_held (drop k xs)) (newest_part xs n)

-- ---- a cell

pub map_drop : (n : ℕ) (xs : List ℕ) → map item_of (drop n xs) ≡ drop n (map item_of xs)
map_drop zero xs = refl
map_drop (suc n) [] = refl
map_drop (suc n) (x ∷ xs) = map_drop n xs

pub only_nine_bits : OnlyNineBits
only_nine_bits n =
    let low : n % 256 ≡ n % 512 % 256 = omega arith in
    let parts : n / 256 ≡ 2 * (n / 512) + n % 512 / 256 = omega arith in
    let high : n / 256 % 2 ≡ n % 512 / 256 % 2 = ap (λ k. k % 2) parts ∙ mul-add-mod_self_left 2 (n / 512) (n % 512 / 256) in
    λ i. record { byte = low i; broken = eqb (high i) 1 }

pub plain_byte : (b : ℕ) → b < 256 → item_of b ≡ record { byte = b; broken = false }
plain_byte b h =
    let e : b % 256 ≡ b = omega arith in
    let f : eqb (b / 256 % 2) 1 ≡ false = ne_eqb (b / 256 % 2) 1 (λ e. omega arith) in
    λ i. record { byte = e i; broken = f i }

ninth : (k : ℕ) → k < 256 → ((k + 256) / 256 % 2 ≡ 1) × ((k + 256) % 256 ≡ k)
ninth k h = let one : (k + 256) / 256 ≡ 1 = omega arith in (omega (arith, one), omega arith)

pub marked_item : (n : ℕ) → item_of (marked_cell n) ≡ record { byte = n % 256; broken = true }
marked_item n =
    let h : n % 256 < 256 = omega arith in
    let f : eqb ((n % 256 + 256) / 256 % 2) 1 ≡ true = eq-eqb ((n % 256 + 256) / 256 % 2) 1 (ninth (n % 256) h).0 in
    λ i. record { byte = (ninth (n % 256) h).1 i; broken = f i }

-- ---- what is added

-- more cells behind
pub received_more : (xs ys : List ℕ) → received_in (xs ++ ys) ≡ received_in xs ++ received_in ys
unfolding received
received_more [] ys = refl
received_more (x ∷ xs) ys = go (eqb (x / 256 % 2) 1) (received_more xs ys)
  where
    go : (t : Bool) → received_in (xs ++ ys) ≡ received_in xs ++ received_in ys →
        a_byte (x % 256) ∷ cond t (a_break ∷ received_in (xs ++ ys)) (received_in (xs ++ ys)) ≡
        (a_byte (x % 256) ∷ cond t (a_break ∷ received_in xs) (received_in xs)) ++ received_in ys
    go true ih = ap (λ (l : List Received). a_byte (x % 256) ∷ a_break ∷ l) ih
    go false ih = ap (λ (l : List Received). a_byte (x % 256) ∷ l) ih

-- bytes behind: each stands for itself
plain_bytes : (ys : List ℕ) → ((k : ℕ) → get_or ys k 0 < 256) → received_in ys ≡ map a_byte ys
unfolding received
plain_bytes [] h = refl
plain_bytes (y ∷ ys) h =
    ap (λ (x : Item). a_byte x.byte ∷ cond x.broken (a_break ∷ received_in ys) (received_in ys)) (plain_byte y (h 0))
    ∙ ap (λ (l : List Received). a_byte y ∷ l) (plain_bytes ys (λ k. h (suc k)))

-- they are held as they came
pub bytes_held : (xs ys : List ℕ) → ((k : ℕ) → get_or ys k 0 < 256) → received_in (xs ++ ys) ≡ as_held (received_in xs ++ map a_byte ys)
bytes_held xs ys h =
    sym (received_held (map item_of (xs ++ ys)))
    ∙ ap as_held (received_more xs ys ∙ ap (λ (l : List Received). received_in xs ++ l) (plain_bytes ys h))

-- a byte behind
pub received_byte : (xs : List ℕ) (b : ℕ) → b < 256 → received_in (xs ++ (b ∷ [])) ≡ received_in xs ++ (a_byte b ∷ [])
unfolding received
received_byte xs b h = received_more xs (b ∷ []) ∙ ap (λ (x : Item). received_in xs ++ received (x ∷ [])) (plain_byte b h)

-- the newest cell marked: a break behind, unless one is there already
pub received_break : (xs : List ℕ) → 0 < length xs →
    received_in (set xs (length xs - 1) (marked_cell (get_or xs (length xs - 1) 0))) ≡ as_held (received_in xs ++ (a_break ∷ []))
unfolding as_held received
received_break [] h = absurd (omega arith)
received_break (x ∷ []) h = ap (λ (y : Item). received (y ∷ [])) (marked_item x) ∙ go (eqb (x / 256 % 2) 1)
  where
    go : (t : Bool) → a_byte (x % 256) ∷ a_break ∷ [] ≡ as_held ((a_byte (x % 256) ∷ cond t (a_break ∷ []) []) ++ (a_break ∷ []))
    go true = refl
    go false = refl
received_break (x ∷ y ∷ xs) h =
    let e : length (x ∷ y ∷ xs) - 1 ≡ suc (length xs) = omega arith in
    let f : length xs ≡ length (y ∷ xs) - 1 = omega arith in
    ap (λ (k : ℕ). received_in (set (x ∷ y ∷ xs) k (marked_cell (get_or (x ∷ y ∷ xs) k 0)))) e
    ∙ go (eqb (x / 256 % 2) 1)
    (ap (λ (k : ℕ). received_in (set (y ∷ xs) k (marked_cell (get_or (y ∷ xs) k 0)))) f ∙ received_break (y ∷ xs) (omega arith))
  where
    rest : List ℕ
    rest = set (y ∷ xs) (length xs) (marked_cell (get_or (y ∷ xs) (length xs) 0))

    go : (t : Bool) → received_in rest ≡ as_held (received_in (y ∷ xs) ++ (a_break ∷ [])) →
        a_byte (x % 256) ∷ cond t (a_break ∷ received_in rest) (received_in rest) ≡
        as_held ((a_byte (x % 256) ∷ cond t (a_break ∷ received_in (y ∷ xs)) (received_in (y ∷ xs))) ++ (a_break ∷ []))
    go true ih = ap (λ (l : List Received). a_byte (x % 256) ∷ a_break ∷ l) ih
    go false ih = ap (λ (l : List Received). a_byte (x % 256) ∷ l) ih
