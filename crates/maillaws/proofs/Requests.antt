-- When a request begins and ends, and that one shows only while something waits. Assumes nothing.
use Prim.Native.Nat.{ℕ, ◌-◌}
use native.Mathlib.Omega.{arith}
use mathlib.Core.Path.{◌≡◌, refl, sym, ap, ◌∙◌}
use mathlib.Core.Bool.{Bool, true, false, cond, ◌&&◌, not, false≢true, true≢false}
use mathlib.Core.List.{List, [], ◌∷◌, map}
use lib.Dec.{eqb}
use lib.ListN.{length}
use borrow.Author.Tests.{eqb-true, eqb-false, eq-eqb, ne_eqb, not-true, not-false}
use Rattle.machine.specs.Machine.{Obeys}
use Rattle.store.specs.declared.Ring.{Ring}
use Rattle.store.specs.Ring.{Fit, held, drop_ring}
use Rattle.store.proofs.Laws.{held_length, drop_fit, drop_len}
use Rattle.news.specs.declared.News.{News}
use Rattle.news.specs.News.{no_news, come}
use Rattle.mailbox.specs.Calls.{World, step}
use Rattle.maillaws.specs.Mailboxes.{mailbox}
use Rattle.maillaws.specs.Sights.{Direction, store_of, ring_of, news_of, waits, counted, any}
use Rattle.maillaws.specs.Requesting.{RequestGoes}
use Rattle.maillaws.proofs.Moves.{Sight, Move, is_still, is_put, is_fetched, is_emptied, is_asked, is_returned}
use Rattle.maillaws.proofs.EveryMove.{moved}

-- ---- whether something waits, by the ring

any_length : (l : List ℕ) → any (map counted l) ≡ not (eqb (length l) 0)
any_length [] = refl
any_length (x ∷ l) = sym (ap not (ne_eqb (length (x ∷ l)) 0 (λ e. omega arith)))

pub any_waits : (s : List ℕ) (r : Ring) → Fit s r → any (map counted (held s r)) ≡ not (eqb r.len 0)
any_waits s r F = any_length (held s r) ∙ ap (λ (n : ℕ). not (eqb n 0)) (held_length s r F)

pub none_waits : (s : List ℕ) (r : Ring) → Fit s r → map counted (held s r) ≡ [] → r.len ≡ 0
none_waits s r F e = go (eqb r.len 0) refl
  where
    go : (t : Bool) → eqb r.len 0 ≡ t → r.len ≡ 0
    go true z = eqb-true r.len 0 z
    go false z = absurd (false≢true (sym (ap any e) ∙ any_waits s r F ∙ ap not z))

-- ---- each move

-- what is seen of one way, before and after
pub record Requested (x : Sight) (before after : List ℕ) (m n : News) : Type 0 where
  pub begins : (any x.left && not (any before)) ≡ true → n.request ≡ true
  pub ends : any x.told ≡ true → n.request ≡ false
  pub spent : any x.fetched ≡ true → after ≡ [] → n.request ≡ false
  pub cleared : x.clears ≡ true → n.request ≡ false
  pub stays : (any x.left && not (any before)) ≡ false → any x.told ≡ false → any x.fetched ≡ false → x.clears ≡ false → n.request ≡ m.request

module _ (d : Direction) (w : World) (F : Fit (store_of d w) (ring_of d w)) where
  -- nothing waits, and something does
  pub was_empty : not (any (waits d w)) ≡ true → eqb (ring_of d w).len 0 ≡ true
  was_empty e = not-false (eqb (ring_of d w).len 0) (sym (any_waits (store_of d w) (ring_of d w) F) ∙ not-true (any (waits d w)) e)

  pub not_empty : not (any (waits d w)) ≡ false → eqb (ring_of d w).len 0 ≡ false
  not_empty e = not-true (eqb (ring_of d w).len 0) (sym (any_waits (store_of d w) (ring_of d w) F) ∙ not-false (any (waits d w)) e)

  -- the oldest was the last that waited
  pub was_last : ((ring_of d w).len ≡ 0 → ⊥) → map counted (held (store_of d w) (drop_ring (ring_of d w) 1)) ≡ [] → eqb (ring_of d w).len 1 ≡ true
  was_last h e =
      let z : (drop_ring (ring_of d w) 1).len ≡ 0 = none_waits (store_of d w) (drop_ring (ring_of d w) 1) (drop_fit (store_of d w) (ring_of d w) 1 F (omega arith)) e in
      let y : (ring_of d w).len - 1 ≡ 0 = sym (drop_len (ring_of d w) 1) ∙ z in
      eq-eqb (ring_of d w).len 1 (omega arith)

  -- or was not
  pub not_last : ((ring_of d w).len ≡ 0 → ⊥) → any (map counted (held (store_of d w) (drop_ring (ring_of d w) 1))) ≡ true → eqb (ring_of d w).len 1 ≡ false
  not_last h e =
      let z : not (eqb (drop_ring (ring_of d w) 1).len 0) ≡ true =
      sym (any_waits (store_of d w) (drop_ring (ring_of d w) 1) (drop_fit (store_of d w) (ring_of d w) 1 F (omega arith))) ∙ e in
      let y = eqb-false (drop_ring (ring_of d w) 1).len 0 (not-true (eqb (drop_ring (ring_of d w) 1).len 0) z) in
      ne_eqb (ring_of d w).len 1 (λ q. y (drop_len (ring_of d w) 1 ∙ ap (λ (n : ℕ). n - 1) q))

module _ (d : Direction) (w : World) where
  -- the request of a way into which a cell is left, and of one from which a cell is fetched
  left_request : (t b : Bool) → t ≡ b → (cond t come (news_of d w)).request ≡ (cond b come (news_of d w)).request
  left_request t b e = ap (λ (x : Bool). (cond x come (news_of d w)).request) e

  last_gone : (t : Bool) → t ≡ true → (cond t no_news (news_of d w)).request ≡ false
  last_gone t e = ap (λ (x : Bool). (cond x no_news (news_of d w)).request) e

  requested : {b : Bool} (x : Sight) (r : Ring) (n : News) (s : List ℕ) → Move d w b x r n s → Requested x (waits d w) (map counted (held s r)) (news_of d w) n
  requested x r n s is_still =
      record { begins = λ e. absurd (false≢true e); ends = λ e. absurd (false≢true e); spent = λ e. absurd (false≢true e); cleared = λ e. absurd (false≢true e); stays = λ a b c e. refl }
  requested x r n s (is_put y F h) =
      record { begins = λ e. left_request _ true (was_empty d w F e); ends = λ e. absurd (false≢true e); spent = λ e. absurd (false≢true e); cleared = λ e. absurd (false≢true e); stays = λ a b c e. left_request _ false (not_empty d w F a) }
  requested x r n s (is_fetched F h) =
      record {
        begins = λ e. absurd (false≢true e);
        ends = λ e. absurd (false≢true e);
        spent = λ e q. last_gone _ (was_last d w F h q);
        cleared = λ e. absurd (false≢true e);
        stays = λ a b c e. absurd (true≢false c);
      }
  requested x r n s (is_emptied cap) =
      record { begins = λ e. absurd (false≢true e); ends = λ e. absurd (false≢true e); spent = λ e. absurd (false≢true e); cleared = λ e. refl; stays = λ a b c e. absurd (true≢false e) }
  requested x r n s (is_asked t m q _) =
      record { begins = λ e. absurd (false≢true e); ends = λ e. q; spent = λ e. absurd (false≢true e); cleared = λ e. absurd (false≢true e); stays = λ a b c e. absurd (true≢false b) }
  requested x r n s (is_returned m q _ _) =
      record { begins = λ e. absurd (false≢true e); ends = λ e. absurd (false≢true e); spent = λ e. absurd (false≢true e); cleared = λ e. absurd (false≢true e); stays = λ a b c e. q }

pub request_goes : (d : Direction) → Obeys (mailbox step) (RequestGoes d)
request_goes d c w h =
    let q = requested d w _ _ _ _ (moved d c w) in
    record { begins = q.begins; ends = q.ends; spent = q.spent; cleared = q.cleared; stays = q.stays }
