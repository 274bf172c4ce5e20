-- How the news of a way goes, by the moves. Assumes nothing.
use Prim.Native.Nat.{ℕ}
use mathlib.Core.Path.{◌≡◌, refl, ap, ◌∙◌}
use mathlib.Core.Bool.{Bool, true, false, cond, ◌&&◌, not, false≢true, true≢false}
use mathlib.Core.List.{List, [], map}
use lib.Dec.{eqb}
use Rattle.machine.specs.Machine.{Obeys}
use Rattle.store.specs.declared.Ring.{Ring}
use Rattle.store.specs.Ring.{held}
use Rattle.news.specs.declared.News.{News}
use Rattle.news.specs.News.{no_news, come}
use Rattle.mailbox.specs.Calls.{World, step}
use Rattle.maillaws.specs.Mailboxes.{mailbox}
use Rattle.maillaws.specs.Sights.{Direction, to_bus, to_loop, ring_of, news_of, waits, counted, any}
use Rattle.maillaws.specs.NewsGoing.{after_telling, NewsGo}
use Rattle.maillaws.proofs.Moves.{Sight, Move, is_still, is_put, is_fetched, is_emptied, is_asked, is_returned}
use Rattle.maillaws.proofs.EveryMove.{moved}
use Rattle.maillaws.proofs.Requests.{was_empty, not_empty, was_last, not_last}

-- what is seen of one way, before and after, by what is asked of its news
pub record Told (d : Direction) (b : Bool) (x : Sight) (before after : List ℕ) (m n : Bool) : Type 0 where
  pub begins : (any x.left && not (any before)) ≡ true → n ≡ true
  pub asked : any x.told ≡ true → n ≡ after_telling d m
  pub spent : any x.fetched ≡ true → after ≡ [] → n ≡ false
  pub kept : any x.fetched ≡ true → any after ≡ true → n ≡ m
  pub cleared : x.clears ≡ true → n ≡ false
  pub back : (any x.left && not (any before)) ≡ false → b ≡ true → m ≡ false → n ≡ false
  pub stays : (any x.left && not (any before)) ≡ false → any x.told ≡ false → any x.fetched ≡ false → x.clears ≡ false → b ≡ false → n ≡ m

no : {X : Type 0} → false ≡ true → X
no e = absurd (false≢true e)

module _ (d : Direction) (w : World) (b : Bool) where
  abbrev was : Bool
  was = (news_of d w).available

  -- the news of a way into which a cell is left, and of one from which a cell is fetched
  left_news : (t u : Bool) → t ≡ u → (cond t come (news_of d w)).available ≡ (cond u come (news_of d w)).available
  left_news t u e = ap (λ (x : Bool). (cond x come (news_of d w)).available) e

  gone_news : (t u : Bool) → t ≡ u → (cond t no_news (news_of d w)).available ≡ (cond u no_news (news_of d w)).available
  gone_news t u e = ap (λ (x : Bool). (cond x no_news (news_of d w)).available) e

  -- no status byte begins it
  none_told : (e : Direction) (m : Bool) → m ≡ false → after_telling e m ≡ false
  none_told to_bus m z = refl
  none_told to_loop m z = z

  none_gone : (t : Bool) → (news_of d w).available ≡ false → (cond t no_news (news_of d w)).available ≡ false
  none_gone true z = refl
  none_gone false z = z

  told_so : (x : Sight) (r : Ring) (n : News) (s : List ℕ) → Move d w b x r n s → Told d b x (waits d w) (map counted (held s r)) was n.available
  told_so x r n s is_still =
      record { begins = no; asked = no; spent = no; kept = no; cleared = no; back = λ a e m. m; stays = λ a t c e u. refl }
  told_so x r n s (is_put y F h) =
      record {
        begins = λ e. left_news _ true (was_empty d w F e);
        asked = no;
        spent = no;
        kept = no;
        cleared = no;
        back = λ a e m. left_news _ false (not_empty d w F a) ∙ m;
        stays = λ a t c e u. left_news _ false (not_empty d w F a);
      }
  told_so x r n s (is_fetched F h) =
      record {
        begins = no;
        asked = no;
        spent = λ e q. gone_news _ true (was_last d w F h q);
        kept = λ e q. gone_news _ false (not_last d w F h q);
        cleared = no;
        back = λ a e m. none_gone (eqb (ring_of d w).len 1) m;
        stays = λ a t c e u. absurd (true≢false c);
      }
  told_so x r n s (is_emptied cap) =
      record { begins = no; asked = no; spent = no; kept = no; cleared = λ e. refl; back = λ a e m. refl; stays = λ a t c e u. absurd (true≢false e) }
  told_so x r n s (is_asked g m q p) =
      record {
        begins = no;
        asked = λ e. p;
        spent = no;
        kept = no;
        cleared = no;
        back = λ a e z. p ∙ none_told d was z;
        stays = λ a t c e u. absurd (true≢false t);
      }
  told_so x r n s (is_returned m q p z) =
      record { begins = no; asked = no; spent = no; kept = no; cleared = no; back = λ a e y. z y; stays = λ a t c e u. p u }

pub news_goes : (d : Direction) → Obeys (mailbox step) (NewsGo d)
news_goes d c w h =
    let q = told_so d w _ _ _ _ _ (moved d c w) in
    record { begins = q.begins; asked = q.asked; spent = q.spent; kept = q.kept; cleared = q.cleared; back = q.back; stays = q.stays }
