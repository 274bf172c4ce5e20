-- A C call refuses exactly when a check of the table is given, and by its number alone. Assumes nothing.
use Prim.Native.Nat.{ℕ}
use native.Mathlib.Omega.{arith}
use mathlib.Core.Path.{◌≡◌, refl, sym, ap, subst, ◌∙◌}
use mathlib.Core.Bool.{Bool, true, false, ◌||◌, not}
use mathlib.Core.List.{[], ◌∷◌}
use lib.ListN.{length}
use lib.Dec.{eqb}
use borrow.Author.Tests.{eqb-true}
use Rattle.answers.specs.Refusals.{check, first_refusal}
use Rattle.answers.specs.Refusing.{Refuses}
use Rattle.answers.specs.Answers.{Said, refused, part, is_refusal}
use Rattle.answers.specs.Word.{word, word_with}
use Rattle.boundary.specs.Product.{Product, Held, Kind, creating, showing, calling, checks, shown, said}
use Rattle.boundary.specs.CCalls.{Lent, CDid, refused_by, held_in, opened, c_step}
use Rattle.boundary.specs.Numbers.{answer_of, part_of, c_answer}
use Rattle.boundary.specs.CRuns.{word_by, answer_word, Whole}
use Rattle.boundary.specs.CLaws.{RefusalAlone}
use Rattle.boundary.specs.CRefusals.{c_checks, RefusedExactlyInC}
use Rattle.boundary.specs.Formed.{Formed}
use Rattle.boundary.specs.Kept.{Kept}
use Rattle.boundary.proofs.Laws.{by_call, fits_in, show_step, misfit_refused, wrong_block_refused}
use Rattle.boundary.proofs.Words.{refusal_told, no_room_alone}
use Rattle.boundary.proofs.Opened.{call_means}
use Rattle.boundary.proofs.Answers.{create_answer, show_answer, on_answer, other_misfits, answers_told, refusal_keeps_all}

-- a call that is refused by the first of its checks
refuses : (a : Said) (k : Lent) (n : ℕ) (l : Lent) → (n ≡ 0 → ⊥) → a ≡ refused n → k ≡ l → Refuses a k n l
refuses a k n l z e h =
    record {
      when = λ m q. let r : refused n ≡ refused m = sym e ∙ q in cc;
      given = λ q. e;
      accepts = λ q. absurd (z q);
      leaves = λ q. h;
    }

module _ (P : Product) (F : Formed P) where
  -- ---- a block of the one length: the checks are those of the call

  same_first : (k : Kind P.Side P.OnState) (l : Lent) → eqb (length l.block) P.layout.len ≡ true →
      first_refusal (checks P k (held_in P l)) ≡ first_refusal (c_checks P k l)
  unfolding checks c_checks
  same_first k l e = each k
    where
      either : (t : Bool) → first_refusal (check 1 (not t) ∷ []) ≡ first_refusal (check 1 (not t || false) ∷ [])
      either true = refl
      either false = refl

      each : (k : Kind P.Side P.OnState) → first_refusal (checks P k (held_in P l)) ≡ first_refusal (c_checks P k l)
      each (creating m) =
          let t : Bool = P.obeyed m (length l.first) (length l.second) in
          either t ∙ ap (λ (b : Bool). first_refusal (check 1 (not t || not b) ∷ [])) (sym e)
      each (showing side) = refl
      each (calling c) = rw (fits_in P F l)

  -- ---- a block of another length: the first check is given

  module _ (l : Lent) (e : eqb (length l.block) P.layout.len ≡ false) where
    abbrev Right : P.Call → Type 0
    Right c = Refuses (c_answer P c l) (c_step P c l).lent (first_refusal (c_checks P (P.kind c) l)) l

    -- the number of a refused call tells the refusal
    abbrev Told : P.Call → ℕ → Type 0
    Told c n = c_answer P c l ≡ refused n

    by_first : (c : P.Call) (n : ℕ) → first_refusal (c_checks P (P.kind c) l) ≡ n → (n ≡ 0 → ⊥) → Told c n → (c_step P c l).lent ≡ l → Right c
    by_first c n q z t k =
        subst (λ (x : ℕ). Refuses (c_answer P c l) (c_step P c l).lent x l) (sym q) (refuses (c_answer P c l) (c_step P c l).lent n l z t k)

    create_right : (m : ℕ) → Right (P.create m)
    unfolding c_checks
    create_right m =
        let r : c_step P (P.create m) l ≡ refused_by 1 l = wrong_block_refused P F m l e in
        by_first (P.create m) 1 ((λ i. first_refusal (c_checks P (F.created m i) l)) ∙ given (P.obeyed m (length l.first) (length l.second))) (λ z. omega arith)
        (create_answer P F m l ∙ ap (λ (x : CDid). answer_of P.given x.word) r ∙ refusal_told P.given 1 (omega arith))
        (ap (λ (x : CDid). x.lent) r)
      where
        given : (t : Bool) → first_refusal (check 1 (not t || not (eqb (length l.block) P.layout.len)) ∷ []) ≡ 1
        given true = rw e
        given false = refl

    show_right : (side : P.Side) → Right (P.show side)
    unfolding c_checks part_of
    show_right side =
        let a = show_answer P F side l in
        let n : first_refusal (c_checks P (P.kind (P.show side)) l) ≡ 0 = λ i. first_refusal (c_checks P (F.showed side i) l) in
        record {
          when = λ m q. let z = sym a ∙ q in n ∙ (cc);
          given = λ z. absurd (z n);
          accepts = λ z. ap is_refusal a;
          leaves = λ q. ap (λ (r : CDid). r.lent) (show_step P F side l);
        }

    on_right : (c : P.OnState) → Right (P.on c)
    unfolding c_checks
    on_right c =
        let r : c_step P (P.on c) l ≡ refused_by 2 l = misfit_refused P F c l (other_misfits P F l e) in
        by_first (P.on c) 2 ((λ i. first_refusal (c_checks P (F.called c i) l)) ∙ rw (other_misfits P F l e)) (λ z. omega arith)
        (on_answer P F c l ∙ ap (λ (x : CDid). answer_of P.given x.word) r ∙ refusal_told P.given 2 (omega arith))
        (ap (λ (x : CDid). x.lent) r)

  pub refused_exactly_in_c : Kept P → RefusedExactlyInC P
  refused_exactly_in_c K c l h = pick (eqb (length l.block) P.layout.len) refl
    where
      pick : (t : Bool) → eqb (length l.block) P.layout.len ≡ t → Refuses (c_answer P c l) (c_step P c l).lent (first_refusal (c_checks P (P.kind c) l)) l
      pick false e = by_call P F (Right l e) (create_right l e) (show_right l e) (on_right l e) c
      pick true e =
          let a : c_answer P c l ≡ said P c (opened P l) = answers_told P F K c l (record { size = eqb-true (length l.block) P.layout.len e; lendable = h }) in
          let n : first_refusal (checks P (P.kind c) (P.apart (opened P l))) ≡ first_refusal (c_checks P (P.kind c) l) =
          ap (λ (x : Held P.State). first_refusal (checks P (P.kind c) x)) (F.back (held_in P l)) ∙ same_first (P.kind c) l e in
          let r = F.refuses c (opened P l) in
          record {
            when = λ m q. sym n ∙ r.when m (sym a ∙ q);
            given = λ z. a ∙ r.given (λ q. z (sym n ∙ q)) ∙ ap refused n;
            accepts = λ z. ap is_refusal a ∙ r.accepts (n ∙ z);
            leaves = refusal_keeps_all P F K c l h;
          }

  -- ---- the number of a refusal is the refusal's alone

  -- a call that refuses is answered by the number of the refusal
  refused_word : (c : P.Call) (w : P.World) (n : ℕ) → said P c w ≡ refused n → answer_word P c w ≡ word (refused n)
  unfolding answer_word word_by
  refused_word c w n =
      by_call P F (λ x. said P x w ≡ refused n → answer_word P x w ≡ word (refused n))
      (λ m e. (λ i. word_by P (F.created m i) (P.create m) w) ∙ ap word e)
      (λ side e. let z : part (shown P side (P.apart w)) ≡ refused n = sym (F.shows side w) ∙ e in cc)
      (λ x e. (λ i. word_by P (F.called x i) (P.on x) w)
      ∙ (λ i. word_with (e i) (F.alone (P.on x) w (ap is_refusal e) i)) ∙ no_room_alone (refused n))
      c

  -- with a block of another length
  other_alone : (c : P.Call) (l : Lent) (n : ℕ) → eqb (length l.block) P.layout.len ≡ false → c_answer P c l ≡ refused n → c_step P c l ≡ refused_by n l
  unfolding part_of
  other_alone c l n e =
      by_call P F (λ x. c_answer P x l ≡ refused n → c_step P x l ≡ refused_by n l)
      (λ m q.
      let r : c_step P (P.create m) l ≡ refused_by 1 l = wrong_block_refused P F m l e in
      let t : refused 1 ≡ refused n = sym (create_answer P F m l ∙ ap (λ (x : CDid). answer_of P.given x.word) r ∙ refusal_told P.given 1 (omega arith)) ∙ q in
      r ∙ (λ i. record { word = word (t i); lent = l }))
      (λ side q. let z = sym (show_answer P F side l) ∙ q in cc)
      (λ x q.
      let r : c_step P (P.on x) l ≡ refused_by 2 l = misfit_refused P F x l (other_misfits P F l e) in
      let t : refused 2 ≡ refused n = sym (on_answer P F x l ∙ ap (λ (y : CDid). answer_of P.given y.word) r ∙ refusal_told P.given 2 (omega arith)) ∙ q in
      r ∙ (λ i. record { word = word (t i); lent = l }))
      c

  pub refusal_alone : Kept P → RefusalAlone P
  refusal_alone K c l n h e = pick (eqb (length l.block) P.layout.len) refl
    where
      pick : (t : Bool) → eqb (length l.block) P.layout.len ≡ t → c_step P c l ≡ refused_by n l
      pick false q = other_alone c l n q e
      pick true q =
          let w : Whole P l = record { size = eqb-true (length l.block) P.layout.len q; lendable = h } in
          let a : said P c (opened P l) ≡ refused n = sym (answers_told P F K c l w) ∙ e in
          let number : (c_step P c l).word ≡ word (refused n) = (call_means P F K c l w).word ∙ refused_word c (opened P l) n a in
          let left : (c_step P c l).lent ≡ l = refusal_keeps_all P F K c l h (ap is_refusal e) in
          λ i. record { word = number i; lent = left i }
