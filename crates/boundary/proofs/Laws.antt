-- The laws of one C call. Assumes nothing.
use Prim.Native.Nat.{ℕ, ◌/◌, ◌%◌}
use native.Mathlib.Omega.{arith}
use mathlib.Core.Path.{◌≡◌, refl, sym, ap, subst, ◌∙◌}
use mathlib.Core.Bool.{Bool, true, false, cond}
use mathlib.Core.List.{List, [], ◌∷◌}
use lib.ListN.{length, take, drop}
use lib.Dec.{eqb}
use borrow.Author.Tests.{eqb-false, eqb-true, eq-eqb}
use Rattle.branches.proofs.Branches.{by_cond, cond_true, cond_false}
use Rattle.answers.specs.Answers.{Said, refused, part, is_refusal}
use Rattle.answers.specs.Word.{word, word_with}
use Rattle.codec.specs.Blocks.{packed}
use Rattle.codec.proofs.Laws.{packed_length, packed_means, meaning_fits}
use Rattle.boundary.specs.Product.{Product, Held, held, Kind, creating, showing, calling, call_of, fits_held, shown, said, room, after}
use Rattle.boundary.specs.CCalls.{Lent, CDid, c_did, place_word, store_of, held_in, opened, fitting}
use Rattle.boundary.specs.CCalls.{closed, created_for, called_for, place_of, shown_word, c_by, c_step}
use Rattle.boundary.specs.CRuns.{packed_world, word_by, answer_word}
use Rattle.boundary.specs.CLaws.{OneResultInC, ShownPlace, MisfitShowsNothing, MisfitRefused, WrongBlockRefused, SameCall}
use Rattle.boundary.specs.Formed.{Formed}
use Rattle.boundary.proofs.Closing.{misfit_said, part_word, Shown, shown_part}
use Rattle.boundary.proofs.Words.{no_room_alone}

pub one_result_in_c : (P : Product) → OneResultInC P
one_result_in_c P c l n m b b' xs xs' ys ys' p q =
    let e = p ∙ sym q in
    (ap (λ (r : CDid). r.word) e, (ap (λ (r : CDid). r.lent.block) e, (ap (λ (r : CDid). r.lent.first) e, ap (λ (r : CDid). r.lent.second) e)))

none_of : (xs : List ℕ) → length xs ≡ 0 → xs ≡ []
none_of [] e = refl
none_of (x ∷ xs) e = absurd (omega arith)

module _ (P : Product) (F : Formed P) where
  -- ---- calls by their kinds

  pub by_call : (Q : P.Call → Type 0) → ((m : ℕ) → Q (P.create m)) → ((side : P.Side) → Q (P.show side)) →
      ((c : P.OnState) → Q (P.on c)) → (c : P.Call) → Q c
  by_call Q f g h c = subst Q (F.named c) (each (P.kind c))
    where
      each : (k : Kind P.Side P.OnState) → Q (call_of P k)
      each (creating m) = f m
      each (showing side) = g side
      each (calling x) = h x

  -- what a C call does, by the call's kind
  pub create_step : (m : ℕ) (l : Lent) → c_step P (P.create m) l ≡ created_for P l (said P (P.create m) (opened P l)) (P.apart (after P (P.create m) (opened P l)))
  unfolding c_step c_by
  create_step m l = λ i. c_by P (F.created m i) (P.create m) l

  pub show_step : (side : P.Side) (l : Lent) → c_step P (P.show side) l ≡ record { word = shown_word P side (held_in P l); lent = l }
  unfolding c_step c_by
  show_step side l = λ i. c_by P (F.showed side i) (P.show side) l

  pub on_step : (c : P.OnState) (l : Lent) →
      c_step P (P.on c) l ≡
      closed P l (word_with (said P (P.on c) (opened P l)) (room P (P.on c) (opened P l))) (said P (P.on c) (opened P l)) (P.apart (after P (P.on c) (opened P l)))
  unfolding c_step c_by called_for
  on_step c l = λ i. c_by P (F.called c i) (P.on c) l

  pub create_call : (m : ℕ) (l : Lent) → length l.block ≡ P.layout.len →
      c_step P (P.create m) l ≡ closed P l (word (said P (P.create m) (opened P l))) (said P (P.create m) (opened P l)) (P.apart (after P (P.create m) (opened P l)))
  unfolding created_for
  create_call m l e = create_step m l ∙ cond_true _ _ _ (eq-eqb (length l.block) P.layout.len e)

  -- ---- refusals

  -- the state in a block fits exactly if the block does
  pub fits_in : (l : Lent) → fits_held P (held_in P l) ≡ fitting P l
  fits_in l = meaning_fits P.layout P.no_state (λ s. P.fits s (length l.first) (length l.second)) (F.misfits (length l.first) (length l.second)) l.block

  -- a refusal is a number alone
  pub refusal_keeps : (c : P.Call) (w : P.World) → is_refusal (said P c w) ≡ true → after P c w ≡ w
  refusal_keeps c w = (F.refuses c w).leaves

  -- a refusal leaves state and stores, and so the block
  closed_keeps : (l : Lent) (n : ℕ) (d : Said) (h : Held P.State) → h ≡ held_in P l → is_refusal d ≡ true → (closed P l n d h).lent ≡ l
  unfolding closed
  closed_keeps l n d h k e = rw (e, k)

  pub kept_held : (c : P.Call) (l : Lent) → is_refusal (said P c (opened P l)) ≡ true → P.apart (after P c (opened P l)) ≡ held_in P l
  kept_held c l e = ap P.apart (refusal_keeps c (opened P l) e) ∙ F.back (held_in P l)

  pub misfit_refused : MisfitRefused P
  unfolding closed
  misfit_refused c l e =
      let d : said P (P.on c) (opened P l) ≡ refused 2 = misfit_said P F c (held_in P l) (fits_in l ∙ e) in
      let z : room P (P.on c) (opened P l) ≡ 0 = F.alone (P.on c) (opened P l) (ap is_refusal d) in
      on_step c l ∙ (λ i. closed P l (word_with (d i) (z i)) (d i) (kept_held (P.on c) l (ap is_refusal d) i))
      ∙ (λ i. record { word = no_room_alone (refused 2) i; lent = l })

  pub wrong_block_refused : WrongBlockRefused P
  unfolding created_for
  wrong_block_refused m l e = create_step m l ∙ cond_false _ _ _ e

  -- the same of a C call where the product's call refuses
  pub step_refusal_keeps : (c : P.Call) (l : Lent) → is_refusal (said P c (opened P l)) ≡ true → (c_step P c l).lent ≡ l
  unfolding created_for
  step_refusal_keeps c l =
      by_call (λ x. is_refusal (said P x (opened P l)) ≡ true → (c_step P x l).lent ≡ l)
      (λ m e. ap (λ (r : CDid). r.lent) (create_step m l)
      ∙ by_cond (λ (r : CDid). r.lent ≡ l) (eqb (length l.block) P.layout.len) _ _ (λ q. closed_keeps l _ _ _ (kept_held (P.create m) l e) e) (λ q. refl))
      (λ side e. ap (λ (r : CDid). r.lent) (show_step side l))
      (λ x e. ap (λ (r : CDid). r.lent) (on_step x l) ∙ closed_keeps l _ _ _ (kept_held (P.on x) l e) e)
      c

  -- ---- showing

  pub shown_place : ShownPlace P
  unfolding shown_word
  shown_place side h = pick (eqb (length p) 0) refl
    where
      p : List ℕ
      p = shown P side h

      k : ℕ
      k = place_of P side h.state

      pick : (t : Bool) → eqb (length p) 0 ≡ t →
          p ≡ take (cond (eqb (length p) 0) 0 (place_word k (word (part p))) % 4294967296)
          (drop (cond (eqb (length p) 0) 0 (place_word k (word (part p))) / 4294967296) (store_of P side h))
      pick true e = rw e (none_of p (eqb-true (length p) 0 e))
      pick false e =
          let t : Shown (store_of P side h) p k = shown_part P F side h p refl k (eqb-false (length p) 0 e) refl in
          let low : place_word k (length p) % 4294967296 ≡ length p = omega (arith, t.start, t.len) in
          let high : place_word k (length p) / 4294967296 ≡ k = omega (arith, t.start, t.len) in
          rw (e, part_word p, low, high) t.place

  -- an empty part for a misfit state, which is the number 0
  shown_none : (side : P.Side) (h : Held P.State) → fits_held P h ≡ false → shown P side h ≡ []
  unfolding shown
  shown_none side h e = cond_false _ _ _ e

  word_none : (side : P.Side) (h : Held P.State) → shown P side h ≡ [] → shown_word P side h ≡ 0
  unfolding shown_word
  word_none side h e = λ i. cond (eqb (length (e i)) 0) 0 (place_word (place_of P side h.state) (word (part (e i))))

  pub misfit_shows_nothing : MisfitShowsNothing P
  misfit_shows_nothing side l e =
      show_step side l ∙ (λ i. record { word = word_none side (held_in P l) (shown_none side (held_in P l) (fits_in l ∙ e)) i; lent = l })

  -- ---- the C functions are the same calls

  module _ (w : P.World) (r : P.layout.Ranged (P.apart w).state) where
    held_packed : held_in P (packed_world P w) ≡ P.apart w
    held_packed = λ i. held (packed_means P.layout P.no_state (P.apart w).state r i) (P.apart w).first (P.apart w).second

    opened_packed : opened P (packed_world P w) ≡ w
    opened_packed = ap P.world held_packed ∙ F.there w

    closed_packed : (n : ℕ) (d : Said) (v : P.World) → (is_refusal d ≡ true → v ≡ w) →
        closed P (packed_world P w) n d (P.apart v) ≡ record { word = n; lent = packed_world P v }
    unfolding closed
    closed_packed n d v k = pick (is_refusal d) refl
      where
        pick : (t : Bool) → is_refusal d ≡ t →
            c_did n (cond (is_refusal d) (packed P.layout (P.apart w).state) (packed P.layout (P.apart v).state)) (P.apart v).first (P.apart v).second ≡
            record { word = n; lent = packed_world P v }
        pick true e = rw (e, k e)
        pick false e = rw e

    met : (number : P.World → ℕ) (c : P.Call) →
        closed P (packed_world P w) (number (opened P (packed_world P w))) (said P c (opened P (packed_world P w))) (P.apart (after P c (opened P (packed_world P w)))) ≡
        record { word = number w; lent = packed_world P (after P c w) }
    met number c =
        ap (λ (x : P.World). closed P (packed_world P w) (number x) (said P c x) (P.apart (after P c x))) opened_packed
        ∙ closed_packed (number w) (said P c w) (after P c w) (refusal_keeps c w)

  pub same_call : SameCall P
  unfolding answer_word word_by
  same_call c w r =
      by_call (λ x. c_step P x (packed_world P w) ≡ record { word = answer_word P x w; lent = packed_world P (after P x w) })
      (λ m. create_call m (packed_world P w) (packed_length P.layout (P.apart w).state) ∙ met w r (λ v. word (said P (P.create m) v)) (P.create m)
      ∙ (λ i. record { word = word_by P (sym (F.created m) i) (P.create m) w; lent = packed_world P (after P (P.create m) w) }))
      (λ side. show_step side (packed_world P w)
      ∙ (λ i. record { word = shown_word P side (held_packed w r i); lent = packed_world P (sym (F.looks side w) i) })
      ∙ (λ i. record { word = word_by P (sym (F.showed side) i) (P.show side) w; lent = packed_world P (after P (P.show side) w) }))
      (λ x. on_step x (packed_world P w) ∙ met w r (λ v. word_with (said P (P.on x) v) (room P (P.on x) v)) (P.on x)
      ∙ (λ i. record { word = word_by P (sym (F.called x) i) (P.on x) w; lent = packed_world P (after P (P.on x) w) }))
      c
