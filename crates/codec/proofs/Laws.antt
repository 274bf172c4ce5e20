-- The laws of blocks: a state has one block, a block has one meaning, and which blocks are states. Assumes nothing.
use Prim.Native.Nat.{ℕ}
use mathlib.Core.Path.{◌≡◌, refl, sym, ap, subst, ◌∙◌}
use mathlib.Core.Bool.{Bool, true, false, ◌&&◌}
use mathlib.Core.List.{List}
use lib.ListN.{length, get_or}
use borrow.Author.Tests.{eq-eqb}
use Rattle.store.specs.Bytes.{Bytes}
use Rattle.codec.specs.Standing.{at_self}
use Rattle.codec.specs.Codec.{Codec}
use Rattle.codec.specs.Blocks.{packed, unpacked, is_state, meaning, fitting_block, StartsWith, NeverBoth}
use Rattle.codec.proofs.Same.{same_true, state_packed, means, means_none}

module _ {S : Type 0} (layout : Codec S) where
  -- ---- a state has one block

  pub packed_length : (s : S) → length (packed layout s) ≡ layout.len
  unfolding packed
  packed_length s = layout.put_length s

  pub read_back : (s : S) → layout.Ranged s → unpacked layout (packed layout s) ≡ s
  unfolding packed unpacked
  read_back s h = layout.get_put (layout.put s) 0 s h (at_self (layout.put s))

  pub packed_is_state : (s : S) → layout.Ranged s → is_state layout (packed layout s) ≡ true
  unfolding is_state
  packed_is_state s h = rw (eq-eqb (length (packed layout s)) layout.len (packed_length s), read_back s h, same_true (packed layout s) (packed layout s) refl)

  pub packed_means : (none s : S) → layout.Ranged s → meaning layout none (packed layout s) ≡ s
  packed_means none s h = sym (means layout none (packed layout s) true (sym (packed_is_state s h)) refl) ∙ read_back s h

  pub one_block : (s t : S) → layout.Ranged s → layout.Ranged t → packed layout s ≡ packed layout t → s ≡ t
  one_block s t h k e = sym (read_back s h) ∙ ap (unpacked layout) e ∙ read_back t k

  -- ---- a block has one meaning

  pub one_meaning : (b c : List ℕ) → is_state layout b ≡ true → is_state layout c ≡ true → unpacked layout b ≡ unpacked layout c → b ≡ c
  one_meaning b c p q e = sym (state_packed layout b p) ∙ ap (packed layout) e ∙ state_packed layout c q

  -- ---- what is read from bytes is ranged, and a ranged state is packed into bytes

  pub unpacked_ranged : (b : List ℕ) → Bytes b → layout.Ranged (unpacked layout b)
  unfolding unpacked
  unpacked_ranged b h = layout.get_ranged b 0 h

  pub packed_bytes : (s : S) → layout.Ranged s → Bytes (packed layout s)
  unfolding packed
  packed_bytes s h = layout.put_bytes s h

  -- what a block of bytes means is ranged, also where it is no state
  pub meaning_ranged : (none : S) → layout.Ranged none → (b : List ℕ) → Bytes b → layout.Ranged (meaning layout none b)
  meaning_ranged none r b h = pick (is_state layout b) refl
    where
      pick : (t : Bool) → is_state layout b ≡ t → layout.Ranged (meaning layout none b)
      pick true e = subst layout.Ranged (means layout none b true (sym e) refl) (unpacked_ranged b h)
      pick false e = subst layout.Ranged (means_none layout none b false (sym e) refl) r

  -- ---- which blocks are states

  -- a block is the bytes of a state that it means
  pub record IsPacked (b : List ℕ) : Type 0 where
    pub state : S
    pub ranged : layout.Ranged state
    pub bytes : b ≡ packed layout state

  pub state_is_packed : (b : List ℕ) → Bytes b → is_state layout b ≡ true → IsPacked b
  state_is_packed b h e = record { state = unpacked layout b; ranged = unpacked_ranged b h; bytes = sym (state_packed layout b e) }

  pub packed_test : (b : List ℕ) → IsPacked b → is_state layout b ≡ true
  packed_test b p = ap (is_state layout) p.bytes ∙ packed_is_state p.state p.ranged

  -- a block is a fitting state exactly if what it means fits, where what stands for no state does not
  pub meaning_fits : (none : S) (fits : S → Bool) → fits none ≡ false → (b : List ℕ) → fits (meaning layout none b) ≡ fitting_block layout fits b
  unfolding fitting_block
  meaning_fits none fits n b = pick (is_state layout b) refl
    where
      pick : (t : Bool) → is_state layout b ≡ t → fits (meaning layout none b) ≡ (is_state layout b && fits (unpacked layout b))
      pick true e = rw (← means layout none b true (sym e) refl, e)
      pick false e = rw (← means_none layout none b false (sym e) refl, e) n

  -- ---- versions

  -- the first byte of a block that is a state is the version
  pub state_version : (version : ℕ) → StartsWith layout version → (b : List ℕ) → is_state layout b ≡ true → get_or b 0 0 ≡ version
  unfolding packed
  state_version version h b e = ap (λ (xs : List ℕ). get_or xs 0 0) (sym (state_packed layout b e)) ∙ h (unpacked layout b)

pub never_both : {S T : Type 0} (c : Codec S) (d : Codec T) (m n : ℕ) → StartsWith c m → StartsWith d n → (m ≡ n → ⊥) → NeverBoth c d
never_both c d m n p q h b e = pick (is_state d b) refl
  where
    pick : (t : Bool) → is_state d b ≡ t → is_state d b ≡ false
    pick true f = absurd (h (sym (state_version c m p b e) ∙ state_version d n q b f))
    pick false f = f
