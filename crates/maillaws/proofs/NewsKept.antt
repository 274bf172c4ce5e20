-- The news stays until a status byte that showed it is back unchanged: what every call keeps of it. Assumes nothing.
use Prim.Native.Nat.{ℕ, ◌+◌, ◌*◌, ◌/◌, ◌%◌}
use native.Mathlib.Omega.{arith}
use mathlib.Core.Path.{◌≡◌, refl, sym, ap, subst, ◌∙◌}
use mathlib.Core.Bool.{Bool, true, false, cond, ◌&&◌, ◌||◌, not, false≢true, true≢false}
use mathlib.Core.List.{List, [], ◌∷◌, map}
use lib.Dec.{eqb, leb, ltb}
use borrow.Author.Tests.{eqb-true, eqb-false, ne_eqb, leb-false, le-ltb}
use Rattle.branches.proofs.Branches.{by_cond, and_left, and_right}
use Rattle.machine.specs.Rounds.{newest, under_way, is_back}
use Rattle.frame.specs.Frame.{control_of, data_of, made, is_data, same_apart}
use Rattle.role.proofs.CommandLaws.{obeyed_phase}
use Rattle.role.specs.Orders.{order_of}
use Rattle.role.specs.Commands.{obeyed_role}
use Rattle.talker.specs.UnderWay.{talking}
use Rattle.talker.specs.Obeying.{obeyed_talker}
use Rattle.store.specs.Ring.{held, drop_ring}
use Rattle.store.proofs.Laws.{drop_len, drop_fit}
use Rattle.answers.specs.Answers.{Said, frame, said}
use Rattle.news.specs.declared.News.{News}
use Rattle.news.specs.News.{news_byte}
use Rattle.way.specs.Way.{fetched}
use Rattle.mailstate.specs.declared.State.{State}
use Rattle.mailstate.specs.Outcome.{Outcome}
use Rattle.mailstate.proofs.Fits.{toloop_fits}
use Rattle.mailloop.specs.Sends.{ended, sends, send_waiting, send_id, send_accessory, send_status}
use Rattle.mailloop.specs.Messages.{released, identify}
use Rattle.mailbox.specs.Calls.{loop_frame, on, World}
use Rattle.maillaws.specs.Sights.{to_loop, counted, any, data_byte, told}
use Rattle.maillaws.specs.StateFits.{Fits}
use Rattle.maillaws.specs.NewsTold.{shows_news, showing, ends_way, gives_back, news_round}
use Rattle.maillaws.proofs.FrameTests.{no_cell, either_same, frame_is, other_byte, no_frame_by_byte, no_frame_by_control}
use Rattle.maillaws.proofs.StatusSent.{status_byte}
use Rattle.maillaws.proofs.Requests.{any_waits}
use Rattle.maillaws.proofs.FrameWays.{Way, Returning, is_next, is_next_id, is_back as isBackWay, is_last, is_damaged, is_held, is_heard, is_passed, is_cleared, is_obeyed}
use Rattle.maillaws.proofs.FrameWays.{is_released, is_assigned, is_send_asked, is_told, is_finishing, is_id_asked, is_accessory, is_ready, is_identified}

-- the frame is the one under way, as the loop saw it sent
abbrev pub is_unchanged : List ℕ → ℕ → Bool
is_unchanged [] f = false
is_unchanged (g ∷ gs) f = same_apart f (made 0 g)

-- a status byte whose return would end the news was seen to be sent
abbrev pub Safe : List ℕ → State → Type 0
Safe l s =
    (f : ℕ) → eqb s.talker.role.phase 3 ≡ true → s.toloop.news.again ≡ false → eqb (data_of s.talker.under.frame % 2) 1 ≡ true →
    same_apart f s.talker.under.frame ≡ true → is_unchanged l f ≡ true

-- the news is there, and safe
pub record Kept (l : List ℕ) (s : State) : Type 0 where
  pub available : s.toloop.news.available ≡ true
  pub safe : Safe l s

-- with no status byte under way it is
pub elsewhere : (l : List ℕ) (s : State) → eqb s.talker.role.phase 3 ≡ false → Safe l s
elsewhere l s e f p = absurd (true≢false (sym p ∙ e))

-- a status byte with news shows it
pub by_news : (n : News) → n.available ≡ true → shows_news (news_byte n) ≡ true
unfolding news_byte
by_news n a = go n.request
  where
    go : (t : Bool) → shows_news (cond t (cond n.available 65 64) (cond n.available 1 0)) ≡ true
    go true = ap (λ (b : Bool). shows_news (cond b 65 64)) a
    go false = ap (λ (b : Bool). shows_news (cond b 1 0)) a

-- ---- a loop frame

module _ (w : World) (F : Fits w) (f : ℕ) where
  abbrev s : State
  s = w.state

  abbrev after : List ℕ → Said → List ℕ
  after l a = under_way news_round l (on (loop_frame f)) w a

  -- what is under way stays so
  same_way : (l : List ℕ) (k d : ℕ) → told to_loop (on (loop_frame f)) w (frame k d) ≡ [] → is_data f ≡ false → eqb (control_of f) 4 ≡ false → after l (frame k d) ≡ l
  unfolding under_way ends_way
  same_way l k d t e c = λ i. newest (showing (t i)) (cond (e i || c i) [] l)

  -- an unchanged return is seen as one
  back_seen : (l : List ℕ) (k d : ℕ) → is_data f ≡ true → is_unchanged l f ≡ true → is_back news_round l (on (loop_frame f)) w (frame k d) ≡ true
  unfolding gives_back
  back_seen [] k d e u = absurd (false≢true u)
  back_seen (g ∷ gs) k d e u = λ i. e i && u i

  -- the status byte is back: it ends the news only if it was seen to be sent
  after_back : (l : List ℕ) (k d : ℕ) → Returning w.state f → eqb w.state.talker.role.phase 3 ≡ true → same_apart f w.state.talker.under.frame ≡ true → Kept l w.state →
      is_back news_round l (on (loop_frame f)) w (frame k d) ≡ false →
      (w.state.toloop.news.available && not (eqb (data_of w.state.talker.under.frame % 2) 1 && not w.state.toloop.news.again)) ≡ true
  after_back l k d r p m q n = go w.state.toloop.news.again refl (eqb (data_of w.state.talker.under.frame % 2) 1) refl
    where
      go : (a : Bool) → w.state.toloop.news.again ≡ a → (o : Bool) → eqb (data_of w.state.talker.under.frame % 2) 1 ≡ o →
          (w.state.toloop.news.available && not (o && not a)) ≡ true
      go true x true y = λ i. q.available i && true
      go true x false y = λ i. q.available i && true
      go false x false y = λ i. q.available i && true
      go false x true y = absurd (true≢false (sym (back_seen l k d r.isdata (q.safe f p x y m)) ∙ n))

  -- what waits after, and that the news is as it was where the way is not emptied
  abbrev Waits : Outcome → Type 0
  Waits o = any (map counted (held w.toloop o.state.toloop.ring)) ≡ true

  abbrev Stays : List ℕ → Outcome → Type 0
  Stays l o = is_back news_round l (on (loop_frame f)) w (said o.answer) ≡ false → Waits o → Kept (after l (said o.answer)) o.state

  -- the oldest is fetched, and something waits on
  still_news : any (map counted (held w.toloop (drop_ring w.state.toloop.ring 1))) ≡ true → (w.state.toloop.ring.len ≡ 0 → ⊥) → w.state.toloop.news.available ≡ true →
      (fetched w.state.toloop).news.available ≡ true
  unfolding fetched
  still_news e h a = by_cond (λ (n : News). n.available ≡ true) (eqb w.state.toloop.ring.len 1) _ _ gone (λ _. a)
    where
      gone : eqb w.state.toloop.ring.len 1 ≡ true → false ≡ true
      gone k =
          let one : w.state.toloop.ring.len ≡ 1 = eqb-true w.state.toloop.ring.len 1 k in
          let none : (drop_ring w.state.toloop.ring 1).len ≡ 0 = drop_len w.state.toloop.ring 1 ∙ omega arith in
          let fit = drop_fit w.toloop w.state.toloop.ring 1 (toloop_fits w.state w.tobus w.toloop F) (omega arith) in
          sym (ap (λ (n : ℕ). not (eqb n 0)) none) ∙ sym (any_waits w.toloop (drop_ring w.state.toloop.ring 1) fit) ∙ e

  send_stays : (l : List ℕ) → Kept l w.state → Stays l (send_waiting w.state w.toloop)
  unfolding send_waiting ended sends talking fetched
  send_stays l q =
      by_cond (Stays l) (eqb w.state.toloop.ring.len 0) _ _
      (λ _ _ _. record { available = q.available; safe = λ g p. absurd (false≢true p) })
      (λ z _ e. record { available = still_news e (eqb-false _ 0 z) q.available; safe = λ g p. absurd (false≢true p) })

  id_stays : (l : List ℕ) (n : ℕ) → Kept l w.state → Stays l (send_id w.state n)
  unfolding send_id ended sends talking
  id_stays l n q =
      by_cond (Stays l) (leb 10 n) _ _ (λ _ _ _. record { available = q.available; safe = λ g p. absurd (false≢true p) })
      (λ _ _ _. record { available = q.available; safe = λ g p. absurd (false≢true p) })

  -- a talker that is not active has no status byte under way
  idle : leb 2 w.state.talker.role.phase ≡ false → eqb w.state.talker.role.phase 3 ≡ false
  idle e = ne_eqb w.state.talker.role.phase 3 (λ p. omega (arith, leb-false 2 w.state.talker.role.phase e))

  -- after a command neither
  obeyed_idle : (d : ℕ) → eqb (obeyed_talker w.state.talker (order_of 15 w.state.talker.role d)).role.phase 3 ≡ false
  unfolding obeyed_talker
  obeyed_idle d = ne_eqb (obeyed_role w.state.talker.role (order_of 15 w.state.talker.role d)).phase 3 three
    where
      three : (obeyed_role w.state.talker.role (order_of 15 w.state.talker.role d)).phase ≡ 3 → ⊥
      three p = omega (arith, p, obeyed_phase w.state.talker.role (order_of 15 w.state.talker.role d))

  -- a frame that leaves news and talker as they were, and what is under way
  unmoved : (l : List ℕ) (k d : ℕ) → Kept l w.state → told to_loop (on (loop_frame f)) w (frame k d) ≡ [] → is_data f ≡ false → eqb (control_of f) 4 ≡ false →
      Kept (after l (frame k d)) w.state
  unmoved l k d q t e c = subst (λ (x : List ℕ). Kept x w.state) (sym (same_way l k d t e c)) q

  -- a status byte that is sent now shows the news, and is seen
  told_stays : (l : List ℕ) → Kept l w.state → eqb f (made 5 97) ≡ true → Kept (after l (said (send_status w.state).answer)) (send_status w.state).state
  unfolding under_way told send_status talking
  told_stays l q e =
      record {
        available = q.available;
        safe = λ g p a o m. subst (λ (x : List ℕ). is_unchanged x g ≡ true) (sym seen) m;
      }
    where
      odd : shows_news (news_byte w.state.toloop.news) ≡ true
      odd = by_news w.state.toloop.news q.available

      seen : after l (said (send_status w.state).answer) ≡ news_byte w.state.toloop.news ∷ []
      seen =
          (λ i. newest (showing (cond (e i) (status_byte w.state i) [])) rest)
          ∙ (λ i. newest (cond (odd i) (news_byte w.state.toloop.news ∷ []) []) rest)
        where
          rest : List ℕ
          rest = cond (ends_way (on (loop_frame f)) w (said (send_status w.state).answer)) [] l

  -- nothing is told by a frame with another byte, nor by one that only passes
  untold : (a : Said) → eqb f (made 5 97) ≡ false → told to_loop (on (loop_frame f)) w a ≡ []
  unfolding told
  untold a e = ap (λ (t : Bool). cond t (data_byte a) []) e

  untold_frame : (k d : ℕ) → ltb k 4 ≡ false → told to_loop (on (loop_frame f)) w (frame k d) ≡ []
  unfolding told
  untold_frame k d e = ap (λ (l : List ℕ). cond (eqb f (made 5 97)) l []) (no_cell k d e).1 ∙ either_same (eqb f (made 5 97)) []

  pub frame_stays : (l : List ℕ) → Kept l w.state → (o : Outcome) → Way w.state w.toloop f o → Stays l o
  unfolding ended released identify send_accessory sends talking said
  frame_stays l q o (is_next r z) = send_stays l q
  frame_stays l q o (is_next_id r z) = id_stays l w.state.source q
  frame_stays l q o (isBackWay r m k) = λ n e. record { available = after_back l 5 64 r k m q n; safe = λ g p. absurd (false≢true p) }
  frame_stays l q o (is_last r m k x) = λ n e. record { available = q.available; safe = λ g p. absurd (false≢true p) }
  frame_stays l q o (is_damaged r m) = λ n e. record { available = q.available; safe = λ g p. absurd (false≢true p) }
  frame_stays l q o (is_held r t h) = λ n e. record { available = q.available; safe = λ g p. absurd (true≢false (sym p ∙ idle r.idle)) }
  frame_stays l q o (is_heard r t h) = λ n e. record { available = q.available; safe = λ g p. absurd (true≢false (sym p ∙ idle r.idle)) }
  frame_stays l q o (is_passed r t) = λ n e. record { available = q.available; safe = λ g p. absurd (true≢false (sym p ∙ idle r.idle)) }
  frame_stays l q o (is_cleared r c) = λ n e. record { available = q.available; safe = λ g p. absurd (true≢false (sym p ∙ obeyed_idle (data_of f))) }
  frame_stays l q o (is_obeyed r c) = λ n e. record { available = q.available; safe = λ g p. absurd (true≢false (sym p ∙ obeyed_idle (data_of f))) }
  frame_stays l q o (is_released r h) = λ n e.
      let u = unmoved l _ _ q (untold _ (no_frame_by_byte f 5 97 (omega arith) (other_byte f 66 97 (and_left (eqb (data_of f) 66) w.state.hold.held h) (λ z. omega arith)))) r.isdata r.four in
      record { available = u.available; safe = u.safe }
  frame_stays l q o (is_assigned r h a) = λ n e.
      let u = unmoved l _ _ q (untold_frame _ _ (le-ltb ((5 * 256 + (data_of f + 1)) / 256) 4 (omega arith))) r.isdata r.four in
      record { available = u.available; safe = u.safe }
  frame_stays l q o (is_send_asked r x) = send_stays l q
  frame_stays l q o (is_told r x y) = λ n e. told_stays l q (frame_is f 5 97 (omega arith) ∙ (λ i. r.readying.five i && and_left (eqb (data_of f) 97) _ y i))
  frame_stays l q o (is_finishing r x y z) = λ n e.
      let two : w.state.talker.role.phase ≡ 2 = eqb-true w.state.talker.role.phase 2 (and_right (eqb (data_of f) 66) _ z) in
      record { available = q.available; safe = λ g p. absurd (true≢false (sym p ∙ ne_eqb w.state.talker.role.phase 3 (λ h. omega arith))) }
  frame_stays l q o (is_id_asked r x y z u) = id_stays l 0 q
  frame_stays l q o (is_accessory r x y z u v) = λ n e. record { available = q.available; safe = λ g p. absurd (false≢true p) }
  frame_stays l q o (is_ready r x y z u v) = λ n e. unmoved l (control_of f) (data_of f) q (untold_frame (control_of f) (data_of f) r.readying.isdata) r.readying.isdata r.readying.four
  frame_stays l q o (is_identified r) = λ n e. unmoved l _ _ q (untold _ (no_frame_by_control f 5 97 (omega arith) r.five)) r.isdata r.four
