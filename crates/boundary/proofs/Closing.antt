-- From what a call of a product gave to the promise of its C function, on plain values. Assumes nothing.
use Prim.Native.Nat.{ℕ, ◌-◌, ◌<◌, min}
use native.Mathlib.Omega.{arith}
use mathlib.Core.Path.{◌≡◌, refl, sym, ap, ◌∙◌}
use mathlib.Core.Bool.{Bool, true, false, cond, true≢false}
use mathlib.Core.List.{List}
use lib.ListN.{length, take, drop, length-take, length-drop}
use lib.Dec.{eqb}
use borrow.Author.Tests.{eq-eqb, ne_eqb}
use Rattle.answers.specs.Answers.{Said, refused, part, is_refusal}
use Rattle.answers.specs.Refusals.{first_refusal}
use Rattle.answers.specs.Word.{word, word_with, kind_of, value_of}
use Rattle.store.specs.declared.Ring.{Ring}
use Rattle.store.specs.Ring.{Fit, run}
use Rattle.store.proofs.Laws.{run_part}
use Rattle.branches.proofs.Branches.{cond_true, by_cond}
use Rattle.codec.specs.Blocks.{packed, is_state}
use Rattle.codec.proofs.Same.{state_length, state_packed, means, means_none}
use Rattle.boundary.specs.Product.{Product, Held, held, fits_held, shown, checks, said, after}
use Rattle.boundary.specs.CCalls.{lent, c_did, place_word, store_of, state_in, held_in, opened}
use Rattle.boundary.specs.CCalls.{block_after, closed, created_for, called_for, place_of, shown_word, c_by, c_step}
use Rattle.boundary.specs.Formed.{MadeAlike, Formed}
use Rattle.boundary.proofs.Words.{no_room_alone}

-- what the C functions write of what a call did: this number, and the block
abbrev pub WrittenBy : (P : Product) → ℕ → List ℕ → P.Did → ℕ → List ℕ → Type 0
WrittenBy P n b d r b' = (r ≡ n) × (b' ≡ block_after P b (P.said_in d) (P.apart (P.left_in d)).state)

-- the number of the answer alone, or with the room told beside it
abbrev pub Written : (P : Product) → List ℕ → P.Did → ℕ → List ℕ → Type 0
Written P b d r b' = WrittenBy P (word (P.said_in d)) b d r b'

abbrev pub WrittenWith : (P : Product) → List ℕ → P.Did → ℕ → List ℕ → Type 0
WrittenWith P b d r b' = WrittenBy P (word_with (P.said_in d) (P.room_in d)) b d r b'

module _ (P : Product) (F : Formed P) where
  -- ---- a state that does not fit is refused

  -- a state that does not fit its stores: refusal 2, and the world as it was
  pub misfit_said : (c : P.OnState) (h : Held P.State) → fits_held P h ≡ false → said P (P.on c) (P.world h) ≡ refused 2
  unfolding checks
  misfit_said c h e =
      let n : first_refusal (checks P (P.kind (P.on c)) (P.apart (P.world h))) ≡ 2 = (λ i. first_refusal (checks P (F.called c i) (F.back h i))) ∙ rw e in
      (F.refuses (P.on c) (P.world h)).given (λ z. omega (arith, sym n ∙ z)) ∙ ap refused n

  -- ---- the calls on a state

  module _ (c : P.OnState) (b xs ys : List ℕ) (s : P.State) (m : s ≡ state_in P b) where
    abbrev Did : P.Did → Type 0
    Did d = d ≡ P.step (P.on c) (P.world (held s xs ys))

    -- what is not refused had a block that is a state
    had_state : (d : P.Did) → Did d → is_refusal (P.said_in d) ≡ false → is_state P.layout b ≡ true
    had_state d e h = pick (is_state P.layout b) refl
      where
        pick : (t : Bool) → is_state P.layout b ≡ t → is_state P.layout b ≡ true
        pick true q = q
        pick false q =
            let none : s ≡ P.no_state = m ∙ sym (means_none P.layout P.no_state b false (sym q) refl) in
            let misfits : fits_held P (held s xs ys) ≡ false = ap (λ (y : P.State). P.fits y (length xs) (length ys)) none ∙ F.misfits (length xs) (length ys) in
            absurd (true≢false (sym (ap is_refusal (ap P.said_in e ∙ misfit_said c (held s xs ys) misfits)) ∙ h))

    -- and so a block of the right length
    pub may_write : (d : P.Did) → Did d → is_refusal (P.said_in d) ≡ false → length b ≡ P.layout.len
    may_write d e h = state_length P.layout b (had_state d e h)

    -- the C function answered and left what the call did, and told its room
    pub written_with : (d : P.Did) → Did d → (r : ℕ) (b' : List ℕ) → WrittenWith P b d r b' →
        c_did r b' (P.apart (P.left_in d)).first (P.apart (P.left_in d)).second ≡ c_step P (P.on c) (lent b xs ys)
    unfolding c_step c_by called_for closed
    written_with d e r b' t =
        (λ i. c_did (t.0 i) (t.1 i) (P.apart (P.left_in d)).first (P.apart (P.left_in d)).second)
        ∙ ap (λ (x : P.Did). called_for P (lent b xs ys) (P.said_in x) (P.room_in x) (P.apart (P.left_in x)))
        (e ∙ ap (λ (y : P.State). P.step (P.on c) (P.world (held y xs ys))) m)
        ∙ (λ i. c_by P (sym (F.called c) i) (P.on c) (lent b xs ys))

    -- the same of a call that tells no room
    pub written : (d : P.Did) → Did d → (r : ℕ) (b' : List ℕ) → Written P b d r b' → P.room_in d ≡ 0 →
        c_did r b' (P.apart (P.left_in d)).first (P.apart (P.left_in d)).second ≡ c_step P (P.on c) (lent b xs ys)
    written d e r b' t z = written_with d e r b' (t.0 ∙ sym (no_room_alone (P.said_in d)) ∙ ap (word_with (P.said_in d)) (sym z), t.1)

    -- a call that leaves all as it was has the block's bytes to leave
    pub looked : (d : P.Did) → Did d → P.left_in d ≡ P.world (held s xs ys) → (r : ℕ) → r ≡ word (P.said_in d) → P.room_in d ≡ 0 →
        c_did r b xs ys ≡ c_step P (P.on c) (lent b xs ys)
    looked d e q r t z =
        let o : P.apart (P.left_in d) ≡ held s xs ys = ap P.apart q ∙ F.back (held s xs ys) in
        (λ i. c_did r b (sym o i).first (sym o i).second)
        ∙ written d e r b (t, by_cond (λ (x : List ℕ). b ≡ x) (is_refusal (P.said_in d)) _ _ (λ z. refl) (unchanged o)) z
      where
        unchanged : P.apart (P.left_in d) ≡ held s xs ys → is_refusal (P.said_in d) ≡ false → b ≡ packed P.layout (P.apart (P.left_in d)).state
        unchanged o z =
            let f : is_state P.layout b ≡ true = had_state d e z in
            sym (state_packed P.layout b f)
            ∙ ap (packed P.layout) (means P.layout P.no_state b true (sym f) refl ∙ sym m ∙ ap (λ (h : Held P.State). h.state) (sym o))

  -- ---- create

  module _ (m : ℕ) (b xs ys : List ℕ) where
    pub wrong_length : (r : ℕ) → (length b ≡ P.layout.len → ⊥) → r ≡ word (refused 1) → c_did r b xs ys ≡ c_step P (P.create m) (lent b xs ys)
    unfolding c_step c_by created_for
    wrong_length r h q = rw (F.created m, ne_eqb (length b) P.layout.len h, q)

    -- the state that stands beside a refusal is not written
    pub create_written : (s : P.State) (d : P.Did) → length b ≡ P.layout.len → d ≡ P.step (P.create m) (P.world (held s xs ys)) →
        (P.apart (P.left_in d)).first ≡ xs → (P.apart (P.left_in d)).second ≡ ys → (r : ℕ) (b' : List ℕ) → Written P b d r b' →
        c_did r b' xs ys ≡ c_step P (P.create m) (lent b xs ys)
    unfolding c_step c_by created_for closed
    create_written s d l e ex ey r b' t =
        (λ i. c_did (t.0 i) (t.1 i) xs ys) ∙ kept (is_refusal (P.said_in d)) refl ∙ sym (cond_true _ _ _ (eq-eqb (length b) P.layout.len l)) ∙
        (λ i. c_by P (sym (F.created m) i) (P.create m) (lent b xs ys))
      where
        -- what the same create gives where the block stands
        given : Said
        given = said P (P.create m) (opened P (lent b xs ys))

        left : Held P.State
        left = P.apart (after P (P.create m) (opened P (lent b xs ys)))

        alike : MadeAlike P m (P.world (held s xs ys)) (opened P (lent b xs ys))
        alike = F.creates m s (state_in P b) xs ys

        same : P.said_in d ≡ given
        same = ap P.said_in e ∙ alike.answer

        now : P.State
        now = (P.apart (P.left_in d)).state

        kept : (t : Bool) → is_refusal (P.said_in d) ≡ t → c_did (word (P.said_in d)) (block_after P b (P.said_in d) now) xs ys ≡ closed P (lent b xs ys) (word given) given left
        kept true z =
            let n : is_refusal given ≡ true = ap is_refusal (sym same) ∙ z in
            let o : left ≡ held_in P (lent b xs ys) = ap P.apart ((F.refuses (P.create m) (opened P (lent b xs ys))).leaves n) ∙ F.back (held_in P (lent b xs ys)) in
            (λ i. c_did (word (same i)) (cond (z i) b (packed P.layout now)) xs ys)
            ∙ (λ i. c_did (word given) (cond (sym n i) b (packed P.layout left.state)) (sym o i).first (sym o i).second)
        kept false z =
            let q : P.apart (P.left_in d) ≡ left = ap (λ (x : P.Did). P.apart (P.left_in x)) e ∙ ap P.apart (alike.made (ap (λ (x : P.Did). is_refusal (P.said_in x)) (sym e) ∙ z)) in
            (λ i. c_did (word (P.said_in d)) (block_after P b (P.said_in d) now) (sym ex i) (sym ey i))
            ∙ (λ i. closed P (lent b xs ys) (word (same i)) (same i) (q i))

-- ---- showing

pub run_size : (xs : List ℕ) (r : Ring) → length (run xs r) ≡ min r.len (length xs - r.oldest)
run_size xs r =
    ap length (sym (run_part xs r (min r.len (length xs - r.oldest)) refl)) ∙ simp (length-take, length-drop) (omega arith)

-- the number of a part is its length
pub part_word : (p : List ℕ) → word (part p) ≡ length p
unfolding word kind_of value_of
part_word p = omega arith

-- a part that is shown is short, starts below 32,768, and stands where it starts
pub record Shown (xs p : List ℕ) (k : ℕ) : Type 0 where
  pub start : k < 4294967296
  pub len : length p < 4294967296
  pub place : p ≡ take (length p) (drop k xs)

run_shown : (xs : List ℕ) (r : Ring) (p : List ℕ) (k : ℕ) → Fit xs r → p ≡ run xs r → k ≡ r.oldest → Shown xs p k
run_shown xs r p k f e h =
    let size : length p ≡ min r.len (length xs - r.oldest) = ap length e ∙ run_size xs r in
    record {
      start = omega (arith, f.within.oldest, f.within.small);
      len = omega (arith, f.within.len, f.within.small);
      place = e ∙ sym (run_part xs r (length p) size) ∙ ap (λ (n : ℕ). take (length p) (drop n xs)) (sym h);
    }

module _ (P : Product) (F : Formed P) where
  -- the part that showing returned is the one shown
  pub part_shown : (side : P.Side) (h : Held P.State) (p : List ℕ) (d : P.Did) → d ≡ P.step (P.show side) (P.world h) → part p ≡ P.said_in d →
      p ≡ shown P side h
  part_shown side h p d e q =
      let same : part p ≡ part (shown P side h) = q ∙ ap P.said_in e ∙ F.shows side (P.world h) ∙ ap (λ (x : Held P.State). part (shown P side x)) (F.back h) in
      cc

  module _ (side : P.Side) (b xs ys p : List ℕ) (s : P.State) (m : s ≡ state_in P b) (e : p ≡ shown P side (held s xs ys)) where
    pub show_empty : length p ≡ 0 → c_did 0 b xs ys ≡ c_step P (P.show side) (lent b xs ys)
    unfolding c_step c_by shown_word
    show_empty h =
        let none : length (shown P side (held (state_in P b) xs ys)) ≡ 0 = ap (λ (x : P.State). length (shown P side (held x xs ys))) (sym m) ∙ ap length (sym e) ∙ h in
        rw (F.showed side, eq-eqb (length (shown P side (held (state_in P b) xs ys))) 0 none)

    pub show_part : (n r : ℕ) → (length p ≡ 0 → ⊥) → n ≡ place_of P side s → r ≡ place_word n (length p) → c_did r b xs ys ≡ c_step P (P.show side) (lent b xs ys)
    unfolding c_step c_by shown_word
    show_part n r h hn hr = rw (F.showed side, ← m, ← e, ne_eqb (length p) 0 h, part_word p, hr, hn)

  module _ (side : P.Side) (l : Held P.State) (p : List ℕ) (e : p ≡ shown P side l) where
    pub shown_part : (k : ℕ) → (length p ≡ 0 → ⊥) → k ≡ place_of P side l.state → Shown (store_of P side l) p k
    unfolding shown
    shown_part k h hk = pick (fits_held P l) refl
      where
        pick : (t : Bool) → fits_held P l ≡ t → Shown (store_of P side l) p k
        pick false q = absurd (h (ap length e ∙ rw q))
        pick true q = one (eqb (P.side_number side) 0) refl
          where
            other : eqb (P.side_number side) 0 ≡ false → (u : Bool) → eqb (P.side_number side) 1 ≡ u → Shown (store_of P side l) p k
            other z true y = rw z (run_shown l.second (P.second_ring l.state) p k (F.second l q) (e ∙ rw (q, z, y)) (hk ∙ rw z))
            other z false y = absurd (h (ap length e ∙ rw (q, z, y)))

            one : (u : Bool) → eqb (P.side_number side) 0 ≡ u → Shown (store_of P side l) p k
            one true z = rw z (run_shown l.first (P.first_ring l.state) p k (F.first l q) (e ∙ rw (q, z)) (hk ∙ rw z))
            one false z = other z (eqb (P.side_number side) 1) refl

    pub show_small : (k : ℕ) → (length p ≡ 0 → ⊥) → k ≡ place_of P side l.state → (k < 4294967296) × (length p < 4294967296)
    show_small k h hk = let t : Shown (store_of P side l) p k = shown_part k h hk in (t.start, t.len)
