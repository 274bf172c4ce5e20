-- The number of a C call tells its whole answer, and the room beside it. Assumes nothing.
use Prim.Native.Nat.{ℕ}
use native.Mathlib.Omega.{arith}
use mathlib.Core.Path.{◌≡◌, refl, sym, ap, ◌∙◌}
use mathlib.Core.Bool.{Bool, true, false}
use lib.ListN.{length}
use lib.Dec.{eqb}
use borrow.Author.Tests.{eqb-true}
use Rattle.answers.specs.Answers.{part, is_refusal}
use Rattle.answers.specs.Word.{word, word_with}
use Rattle.codec.specs.Blocks.{is_state, fitting_block}
use Rattle.boundary.specs.Product.{Product, Held, shown, said, room}
use Rattle.boundary.specs.CCalls.{Lent, CDid, store_of, held_in, opened, fitting, c_step}
use Rattle.boundary.specs.Numbers.{room_told, answer_of, part_of, answer_by, room_by, c_answer, c_room}
use Rattle.boundary.specs.CRuns.{word_by, answer_word, Whole}
use Rattle.boundary.specs.CLaws.{RefusalKeepsAll, AnswersTold, RoomsTold}
use Rattle.boundary.specs.Formed.{Formed}
use Rattle.boundary.specs.Kept.{Kept, Tells}
use Rattle.boundary.proofs.Laws.{by_call, show_step, shown_place, misfit_refused, wrong_block_refused, step_refusal_keeps}
use Rattle.boundary.proofs.Words.{room_read, no_room_alone, same_told, told_small}
use Rattle.boundary.proofs.Opened.{typed_held, call_means}

module _ (P : Product) (F : Formed P) where
  -- what a call's number tells, by the call's kind
  pub create_answer : (m : ℕ) (l : Lent) → c_answer P (P.create m) l ≡ answer_of P.given (c_step P (P.create m) l).word
  unfolding c_answer answer_by
  create_answer m l = λ i. answer_by P (F.created m i) (c_step P (P.create m) l).word l

  pub show_answer : (side : P.Side) (l : Lent) → c_answer P (P.show side) l ≡ part_of (c_step P (P.show side) l).word (store_of P side (held_in P l))
  unfolding c_answer answer_by
  show_answer side l = λ i. answer_by P (F.showed side i) (c_step P (P.show side) l).word l

  pub on_answer : (c : P.OnState) (l : Lent) → c_answer P (P.on c) l ≡ answer_of P.given (c_step P (P.on c) l).word
  unfolding c_answer answer_by
  on_answer c l = λ i. answer_by P (F.called c i) (c_step P (P.on c) l).word l

  -- and the room
  create_room : (m : ℕ) (l : Lent) → c_room P (P.create m) l ≡ room_told (c_step P (P.create m) l).word
  unfolding c_room room_by
  create_room m l = λ i. room_by P (F.created m i) (c_step P (P.create m) l).word

  show_room : (side : P.Side) (l : Lent) → c_room P (P.show side) l ≡ 0
  unfolding c_room room_by
  show_room side l = λ i. room_by P (F.showed side i) (c_step P (P.show side) l).word

  on_room : (c : P.OnState) (l : Lent) → c_room P (P.on c) l ≡ room_told (c_step P (P.on c) l).word
  unfolding c_room room_by
  on_room c l = λ i. room_by P (F.called c i) (c_step P (P.on c) l).word

  shown_told : (side : P.Side) (l : Lent) → c_answer P (P.show side) l ≡ said P (P.show side) (opened P l)
  unfolding part_of
  shown_told side l =
      show_answer side l
      ∙ ap (λ (r : CDid). part_of r.word (store_of P side (held_in P l))) (show_step P F side l)
      ∙ ap part (sym (shown_place P F side (held_in P l)))
      ∙ sym (F.shows side (opened P l) ∙ ap (λ (h : Held P.State). part (shown P side h)) (F.back (held_in P l)))

  -- a block of another length is no fitting state
  pub other_misfits : (l : Lent) → eqb (length l.block) P.layout.len ≡ false → fitting P l ≡ false
  unfolding fitting_block is_state
  other_misfits l e = rw e

  -- with a block of another length every call leaves the buffers as they were
  pub other_length : (c : P.Call) (l : Lent) → eqb (length l.block) P.layout.len ≡ false → (c_step P c l).lent ≡ l
  other_length c l e =
      by_call P F (λ x. (c_step P x l).lent ≡ l)
      (λ m. ap (λ (r : CDid). r.lent) (wrong_block_refused P F m l e))
      (λ side. ap (λ (r : CDid). r.lent) (show_step P F side l))
      (λ x. ap (λ (r : CDid). r.lent) (misfit_refused P F x l (other_misfits l e)))
      c

  module _ (K : Kept P) where
    -- the numbers of create and of a call on a state
    create_number : (m : ℕ) (l : Lent) → Whole P l → (c_step P (P.create m) l).word ≡ word (said P (P.create m) (opened P l))
    unfolding answer_word word_by
    create_number m l h = (call_means P F K (P.create m) l h).word ∙ (λ i. word_by P (F.created m i) (P.create m) (opened P l))

    on_number : (x : P.OnState) (l : Lent) → Whole P l →
        (c_step P (P.on x) l).word ≡ word_with (said P (P.on x) (opened P l)) (room P (P.on x) (opened P l))
    unfolding answer_word word_by
    on_number x l h = (call_means P F K (P.on x) l h).word ∙ (λ i. word_by P (F.called x i) (P.on x) (opened P l))

    on_tells : (x : P.OnState) (l : Lent) → Whole P l → Tells P (said P (P.on x) (opened P l))
    on_tells x l h = K.told_on x (held_in P l) (typed_held P F K l h.lendable)

    pub answers_told : AnswersTold P
    answers_told c l h =
        by_call P F (λ x. c_answer P x l ≡ said P x (opened P l))
        (λ m. create_answer m l ∙ ap (answer_of P.given) (create_number m l h) ∙ K.told_create m (opened P l))
        (λ side. shown_told side l)
        (λ x. on_answer x l ∙ ap (answer_of P.given) (on_number x l h)
        ∙ same_told P.given (said P (P.on x) (opened P l)) (room P (P.on x) (opened P l)) ∙ on_tells x l h)
        c

    pub rooms_told : RoomsTold P
    rooms_told c l h =
        by_call P F (λ x. c_room P x l ≡ room P x (opened P l))
        (λ m.
        let a = said P (P.create m) (opened P l) in
        create_room m l ∙ ap room_told (create_number m l h ∙ sym (no_room_alone a))
        ∙ room_read a 0 (told_small P.given F.valued a (K.told_create m (opened P l))) (omega arith) ∙ sym (F.creates_alone m (opened P l)))
        (λ side. show_room side l ∙ sym (F.shows_alone side (opened P l)))
        (λ x.
        let a = said P (P.on x) (opened P l) in
        on_room x l ∙ ap room_told (on_number x l h)
        ∙ room_read a (room P (P.on x) (opened P l)) (told_small P.given F.valued a (on_tells x l h))
        (K.room_on x (held_in P l) (typed_held P F K l h.lendable)))
        c

    pub refusal_keeps_all : RefusalKeepsAll P
    refusal_keeps_all c l h e = pick (eqb (length l.block) P.layout.len) refl
      where
        pick : (t : Bool) → eqb (length l.block) P.layout.len ≡ t → (c_step P c l).lent ≡ l
        pick true q =
            step_refusal_keeps P F c l
            (ap is_refusal (sym (answers_told c l (record { size = eqb-true (length l.block) P.layout.len q; lendable = h }))) ∙ e)
        pick false q = other_length c l q
