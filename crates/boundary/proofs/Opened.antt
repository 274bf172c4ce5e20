-- A C call does on lent buffers what the call does on the world that they stand for, and so does a run. Assumes nothing.
use Prim.Native.Nat.{ℕ}
use mathlib.Core.Path.{◌≡◌, refl, sym, ap, subst, ◌∙◌}
use mathlib.Core.Bool.{Bool, true, false, cond}
use mathlib.Core.List.{List, [], ◌∷◌}
use lib.ListN.{length}
use Rattle.branches.proofs.Branches.{by_cond}
use Rattle.answers.specs.Answers.{Said, is_refusal}
use Rattle.answers.specs.Word.{word, word_with}
use Rattle.machine.specs.Machine.{finally}
use Rattle.store.specs.Bytes.{Bytes}
use Rattle.codec.specs.Blocks.{packed}
use Rattle.codec.proofs.Laws.{packed_length, packed_bytes, packed_means, meaning_ranged}
use Rattle.boundary.specs.Product.{Product, Held, held, machine_of, said, room, after}
use Rattle.boundary.specs.CCalls.{Lent, CDid, state_in, held_in, opened, closed, shown_word, c_step}
use Rattle.boundary.specs.CRuns.{word_by, answer_word, words, c_words, Typed, Lendable, Whole}
use Rattle.boundary.specs.CLaws.{Means, CallMeans, RunMeans, RunsMean}
use Rattle.boundary.specs.Formed.{Formed}
use Rattle.boundary.specs.Kept.{TypedHeld, Kept}
use Rattle.boundary.proofs.Laws.{by_call, create_call, show_step, on_step, refusal_keeps}

module _ (P : Product) (F : Formed P) (K : Kept P) where
  -- ---- what the types give

  -- what a block of bytes means is ranged, also where it is no state
  pub typed_held : (l : Lent) → Lendable P l → TypedHeld P (held_in P l)
  typed_held l h =
      record {
        state = meaning_ranged P.layout P.no_state K.none_ranged l.block h.block;
        first = h.first;
        second = h.second;
      }

  pub opened_typed : (l : Lent) → Lendable P l → Typed P (opened P l)
  opened_typed l h =
      record {
        state = subst (λ (x : Held P.State). P.layout.Ranged x.state) (sym (F.back (held_in P l))) (typed_held l h).state;
        fine = K.fine (held_in P l) (typed_held l h);
      }

  -- ---- one call

  -- what a call that is closed leaves
  module _ (l : Lent) (n : ℕ) (d : Said) (w : P.World) (k : is_refusal d ≡ true → w ≡ opened P l) (r : P.layout.Ranged (P.apart w).state) where
    pub closed_world : opened P (closed P l n d (P.apart w)).lent ≡ w
    unfolding closed
    closed_world = pick (is_refusal d) refl
      where
        pick : (t : Bool) → is_refusal d ≡ t →
            P.world (held (state_in P (cond (is_refusal d) l.block (packed P.layout (P.apart w).state))) (P.apart w).first (P.apart w).second) ≡ w
        pick true e =
            let o : P.apart w ≡ held_in P l = ap P.apart (k e) ∙ F.back (held_in P l) in
            rw e ((λ i. P.world (held (state_in P l.block) (o i).first (o i).second)) ∙ sym (k e))
        pick false e = rw (e, packed_means P.layout P.no_state (P.apart w).state r) (F.there w)

    pub closed_block : length l.block ≡ P.layout.len → Bytes l.block →
        (length (closed P l n d (P.apart w)).lent.block ≡ P.layout.len) × Bytes (closed P l n d (P.apart w)).lent.block
    unfolding closed
    closed_block e h =
        by_cond (λ (b : List ℕ). (length b ≡ P.layout.len) × Bytes b) (is_refusal d) _ _
        (λ q. (e, h))
        (λ q. (packed_length P.layout (P.apart w).state, packed_bytes P.layout (P.apart w).state r))

  module _ (l : Lent) (h : Whole P l) where
    typed : Typed P (opened P l)
    typed = opened_typed l h.lendable

    -- a call that is closed with this number
    abbrev IsClosed : P.Call → ℕ → Type 0
    IsClosed c n = c_step P c l ≡ closed P l n (said P c (opened P l)) (P.apart (after P c (opened P l)))

    -- the numbers of create and of a call on a state
    abbrev created : ℕ → ℕ
    created m = word (said P (P.create m) (opened P l))

    abbrev called : P.OnState → ℕ
    called x = word_with (said P (P.on x) (opened P l)) (room P (P.on x) (opened P l))

    closed_means : (c : P.Call) (n : ℕ) → IsClosed c n → n ≡ answer_word P c (opened P l) → Means P c l
    unfolding closed
    closed_means c n q a =
        record {
          world = ap (λ (x : CDid). opened P x.lent) q ∙ closed_world l n (said P c (opened P l)) (after P c (opened P l)) (refusal_keeps P F c (opened P l)) (K.ranged c (opened P l) typed);
          word = ap (λ (x : CDid). x.word) q ∙ a;
        }

    pub meant : (c : P.Call) → Means P c l
    unfolding answer_word word_by
    meant =
        by_call P F (λ c. Means P c l)
        (λ m. closed_means (P.create m) (created m) (create_call P F m l h.size) (λ i. word_by P (sym (F.created m) i) (P.create m) (opened P l)))
        (λ side. record {
          world = ap (λ (x : CDid). opened P x.lent) (show_step P F side l) ∙ sym (F.looks side (opened P l));
          word =
              ap (λ (x : CDid). x.word) (show_step P F side l)
              ∙ (λ i. shown_word P side (sym (F.back (held_in P l)) i))
              ∙ (λ i. word_by P (sym (F.showed side) i) (P.show side) (opened P l));
        })
        (λ x. closed_means (P.on x) (called x) (on_step P F x l) (λ i. word_by P (sym (F.called x) i) (P.on x) (opened P l)))

    -- the block stays one of the one length, and of bytes
    abbrev BlockGood : Lent → Type 0
    BlockGood x = (length x.block ≡ P.layout.len) × Bytes x.block

    closing : (c : P.Call) (n : ℕ) → IsClosed c n → BlockGood (c_step P c l).lent
    closing c n q =
        subst (λ (x : CDid). BlockGood x.lent) (sym q)
        (closed_block l n (said P c (opened P l)) (after P c (opened P l)) (refusal_keeps P F c (opened P l)) (K.ranged c (opened P l) typed) h.size h.lendable.block)

    block_kept : (c : P.Call) → BlockGood (c_step P c l).lent
    block_kept =
        by_call P F (λ c. BlockGood (c_step P c l).lent)
        (λ m. closing (P.create m) (created m) (create_call P F m l h.size))
        (λ side. subst (λ (x : CDid). BlockGood x.lent) (sym (show_step P F side l)) (h.size, h.lendable.block))
        (λ x. closing (P.on x) (called x) (on_step P F x l))

    pub whole_kept : (c : P.Call) → P.Fair c → Whole P (c_step P c l).lent
    whole_kept c b =
        let t = K.stored c (held_in P l) b (typed_held l h.lendable) in
        let o = sym (ap P.apart (meant c).world) ∙ F.back (held_in P (c_step P c l).lent) in
        record {
          size = (block_kept c).0;
          lendable =
              record {
                block = (block_kept c).1;
                first = subst (λ (x : Held P.State). P.FirstStored x.first) o t.first;
                second = subst (λ (x : Held P.State). P.SecondStored x.second) o t.second;
              };
        }

  pub call_means : CallMeans P
  call_means c l h = meant l h c

  -- ---- runs

  pub runs_mean : RunsMean P
  unfolding c_words words finally
  runs_mean [] l b h = record { world = refl; words = refl; whole = h }
  runs_mean (c ∷ cs) l b h =
      let k : Whole P (c_step P c l).lent = whole_kept l h c b.0 in
      let r : RunMeans P cs (c_step P c l).lent = runs_mean cs (c_step P c l).lent b.1 k in
      let m : Means P c l = call_means c l h in
      record {
        world = r.world ∙ ap (finally (machine_of P) cs) m.world;
        words = λ i. m.word i ∷ (r.words ∙ ap (words P cs) m.world) i;
        whole = r.whole;
      }
