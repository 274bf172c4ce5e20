-- Where a frame of ours begins its way round the loop: it is under way as it was answered. Assumes nothing.
use Prim.Native.Nat.{ℕ, ◌+◌, ◌<◌, ◌≤◌}
use native.Mathlib.Omega.{arith}
use mathlib.Core.Path.{◌≡◌, refl, sym, ap, subst, ◌∙◌}
use mathlib.Core.Bool.{Bool, true, false, cond, ◌&&◌, ◌||◌, or-false, and-false, true≢false, false≢true}
use mathlib.Core.List.{List, [], ◌∷◌}
use lib.Dec.{eqb, leb}
use lib.ListN.{get_or}
use borrow.Author.Tests.{eqb-true, lt-ltb, le-ltb}
use Rattle.branches.proofs.Branches.{by_cond, and_left}
use Rattle.frame.specs.Frame.{control_of, data_of, made, is_data, stripped, with_service}
use Rattle.frame.proofs.Laws.{stripped_service, made_parts}
use Rattle.talker.specs.UnderWay.{talking}
use Rattle.store.specs.Ring.{held}
use Rattle.answers.specs.Answers.{Said, said, frame}
use Rattle.news.specs.News.{news_byte}
use Rattle.mailstate.specs.declared.State.{State}
use Rattle.mailstate.specs.Outcome.{Outcome}
use Rattle.mailloop.specs.Sends.{serviced, ended, sends, send_waiting, send_id, send_accessory, send_status}
use Rattle.mailloop.specs.Messages.{passed, released, identify, frame_taken}
use Rattle.mailbox.specs.Calls.{reset, loop_frame, bus_command, bus_byte, bus_fetch, bus_clear, bus_lines, Call, create, show, on}
use Rattle.mailbox.specs.Calls.{World, Did, outcome, not_refused, step}
use Rattle.maillaws.specs.Sights.{to_loop, any, data_cell, loop_active, from_way, fetched}
use Rattle.maillaws.specs.LoopRole.{asks_frames}
use Rattle.maillaws.specs.OwnReturns.{data_frame, asks_own, own_frame}
use Rattle.maillaws.proofs.Refusal.{by_refusal}
use Rattle.maillaws.proofs.Small.{news_small, id_small, frame_small}
use Rattle.maillaws.proofs.NewsRuns.{same_first, only}
use Rattle.maillaws.proofs.StatusSent.{status_frame}
use Rattle.maillaws.proofs.FrameTests.{data_not, data_no_frame, no_frame_by_byte, other_byte}
use Rattle.maillaws.proofs.FrameWays.{Way, way, is_next, is_next_id, is_back, is_last, is_damaged, is_held, is_heard, is_passed}
use Rattle.maillaws.proofs.FrameWays.{is_cleared, is_obeyed, is_released, is_assigned, is_send_asked, is_told, is_finishing, is_id_asked}
use Rattle.maillaws.proofs.FrameWays.{is_accessory, is_ready, is_identified}
use Rattle.maillaws.proofs.OwnRuns.{Under}

-- a frame with the service bit set or not
serviced_low : (s : State) (g : ℕ) → g < 1024 → serviced s g < 1024
unfolding serviced with_service
serviced_low s g h = by_cond (λ (n : ℕ). n < 1024) s.toloop.news.request _ _ (λ _. omega arith) (λ _. h)

serviced_bare : (s : State) (g : ℕ) → stripped (serviced s g) ≡ stripped g
unfolding serviced
serviced_bare s g = by_cond (λ (n : ℕ). stripped n ≡ stripped g) s.toloop.news.request _ _ (λ _. stripped_service g) (λ _. refl)

-- a data frame out is seen as it is, and any other not
data_seen : (h : ℕ) → h < 1024 → data_frame (frame (control_of h) (data_of h)) ≡ h ∷ []
data_seen h l = rw (lt-ltb (control_of h) 4 (omega arith), made_parts h)

none_seen : {A : Type 0} (k d g : ℕ) → 4 ≤ k → data_frame (frame k d) ≡ g ∷ [] → A
none_seen k d g h e = absurd (false≢true (ap any (sym (λ i. cond (le-ltb k 4 h i) (made k d ∷ []) []) ∙ e)))

-- what was seen is what is under way
seen_bare : (s : State) (h g : ℕ) → h < 1024 → data_frame (frame (control_of (serviced s h)) (data_of (serviced s h))) ≡ g ∷ [] → stripped h ≡ stripped g
seen_bare s h g l e = sym (serviced_bare s h) ∙ ap stripped (same_first (serviced s h) g (sym (data_seen (serviced s h) (serviced_low s h l)) ∙ e))

module _ (w : World) (f g : ℕ) where
  abbrev s : State
  s = w.state

  -- whether it comes from the way to the loop
  abbrev pub from_store : Bool
  from_store = eqb f (made 5 96) || (is_data f && (loop_active w && from_way w))

  abbrev Starts : Outcome → Type 0
  Starts o = data_frame (said o.answer) ≡ g ∷ [] → Under false g from_store false o.state

  sends_start : (t : State) (h n : ℕ) → h < 1024 → (from_store ≡ true → n ≡ 0) → Starts (sends s t h n)
  unfolding sends talking said
  sends_start t h n l z e = record { phase = refl; frame = seen_bare s h g l e; finishing = λ _. refl; source = z }

  ended_start : (t : State) (d : ℕ) → d < 256 → Starts (ended t d)
  unfolding ended said
  ended_start t d l e = none_seen (control_of (made 5 d)) (data_of (made 5 d)) g (omega arith) e

  waiting_start : Starts (send_waiting s w.toloop)
  unfolding send_waiting
  waiting_start =
      by_cond Starts (eqb s.toloop.ring.len 0) _ _ (λ _. ended_start s 64 (omega arith))
      (λ _. sends_start _ _ 0 (frame_small (get_or (held w.toloop s.toloop.ring) 0 0)) (λ _. refl))

  id_start : (n : ℕ) → from_store ≡ false → Starts (send_id s n)
  unfolding send_id
  id_start n z =
      by_cond Starts (leb 10 n) _ _ (λ _. ended_start s 64 (omega arith))
      (λ _. sends_start s _ (n + 1) (omega (arith, id_small n)) (λ h. absurd (true≢false (sym h ∙ z))))

  -- a ready frame that does not ask for data
  not_store : is_data f ≡ false → eqb (data_of f) 96 ≡ false → from_store ≡ false
  not_store D n = rw (D, no_frame_by_byte f 5 96 (omega arith) n)

  -- a ready frame that asks neither for data nor for an ID
  not_own : (m : ℕ) → eqb (data_of f) m ≡ true → asks_frames m ≡ false → is_data f ≡ false → asks_own false w f ≡ false
  not_own m q n D = rw (D, eqb-true (data_of f) m q, n, and-false, or-false)

  way_starts : asks_own false w f ≡ true → (o : Outcome) → Way s w.toloop f o → Starts o
  unfolding said send_accessory released identify
  way_starts T o (is_next r m) = waiting_start
  way_starts T o (is_next_id r m) =
      let b = r.back in
      id_start s.source (rw (data_no_frame f 5 96 b.isdata (omega arith) (omega arith), b.isdata, b.active, m))
  way_starts T o (is_back r m t) = ended_start _ 64 (omega arith)
  way_starts T o (is_last r m t x) = ended_start _ 64 (omega arith)
  way_starts T o (is_damaged r m) = ended_start _ 65 (omega arith)
  way_starts T o (is_held r l h) = λ e. none_seen 5 66 g (omega arith) e
  way_starts T o (is_heard r l h) = absurd (true≢false (sym T ∙ rw (data_not f 5 r.isdata (omega arith), r.idle, r.isdata)))
  way_starts T o (is_passed r l) = absurd (true≢false (sym T ∙ rw (data_not f 5 r.isdata (omega arith), r.idle, r.isdata)))
  way_starts T o (is_cleared r c) = λ e. none_seen (control_of f) (data_of f) g (omega (arith, eqb-true (control_of f) 4 r.four)) e
  way_starts T o (is_obeyed r c) = λ e. none_seen (control_of f) (data_of f) g (omega (arith, eqb-true (control_of f) 4 r.four)) e
  way_starts T o (is_released r h) = absurd (true≢false (sym T ∙ not_own 66 (and_left (eqb (data_of f) 66) _ h) refl r.isdata))
  way_starts T o (is_assigned r h a) = λ e. none_seen (control_of (made 5 (data_of f + 1))) (data_of (made 5 (data_of f + 1))) g (omega arith) e
  way_starts T o (is_send_asked r x) = waiting_start
  way_starts T o (is_told r x y) = absurd (true≢false (sym T ∙ not_own 97 (and_left (eqb (data_of f) 97) _ y) refl r.readying.isdata))
  way_starts T o (is_finishing r x y h) = λ e. none_seen (control_of f) (data_of f) g (omega (arith, eqb-true (control_of f) 5 r.readying.five)) e
  way_starts T o (is_id_asked r x y h v) = id_start 0 (not_store r.readying.isdata (other_byte f 98 96 (and_left (eqb (data_of f) 98) _ v) (λ q. omega arith)))
  way_starts T o (is_accessory r x y h v t) =
      sends_start s (made 0 67) 10 (omega arith)
      (λ q. absurd (true≢false (sym q ∙ not_store r.readying.isdata (other_byte f 99 96 (and_left (eqb (data_of f) 99) _ t) (λ q. omega arith)))))
  way_starts T o (is_ready r x y h v t) = λ e. none_seen (control_of f) (data_of f) g (omega (arith, eqb-true (control_of f) 5 r.readying.five)) e
  way_starts T o (is_identified r) = absurd (true≢false (sym T ∙ rw (r.five, r.isdata)))

  -- the status byte
  status_starts : f ≡ made 5 97 → data_frame (said (frame_taken s w.toloop f).answer) ≡ g ∷ [] → Under true g false false (frame_taken s w.toloop f).state
  unfolding send_status talking said
  status_starts q =
      subst Told (sym (ap (frame_taken s w.toloop) q ∙ status_frame s w.toloop))
      (by_cond Told (eqb s.talker.role.phase 1) _ _ sent other)
    where
      Told : Outcome → Type 0
      Told o = data_frame (said o.answer) ≡ g ∷ [] → Under true g false false o.state

      sent : eqb s.talker.role.phase 1 ≡ true → Told (send_status s)
      sent _ e =
          record {
            phase = refl;
            frame = seen_bare s (made 0 (news_byte s.toloop.news)) g (omega (arith, news_small s.toloop.news)) e;
            finishing = λ h. absurd (true≢false h);
            source = λ h. absurd (false≢true h);
          }

      other : eqb s.talker.role.phase 1 ≡ false → Told (passed s (made 5 97))
      other _ e = none_seen 5 97 g (omega arith) e

-- ---- every call that sends a frame of ours

-- less is said of where the frame came from
weaker : (k : Bool) (g : ℕ) (z y e : Bool) (s : State) → (y ≡ true → z ≡ true) → Under k g z e s → Under k g y e s
weaker k g z y e s h u = record { phase = u.phase; frame = u.frame; finishing = u.finishing; source = λ q. u.source (h q) }

any_chosen : (t : Bool) (l : List ℕ) → any (cond t l []) ≡ true → t ≡ true
any_chosen true l e = refl
any_chosen false l e = e

module _ (w : World) (f g : ℕ) where
  abbrev out : Outcome
  out = frame_taken w.state w.toloop f

  abbrev fetches : Said → Bool
  fetches a = any (cond (from_store w f g) (data_cell a) [])

  frame_begins : (k : Bool) → cond (asks_own k w f) (data_frame (said out.answer)) [] ≡ g ∷ [] → Under k g (fetches (said out.answer)) false out.state
  frame_begins true e =
      let o = only (asks_own true w f) _ g e in
      let q = eqb-true f (made 5 97) o.0 in
      weaker true g false _ false _ (λ h. sym (rw q) ∙ any_chosen (from_store w f g) _ h) (status_starts w f g q o.1)
  frame_begins false e =
      let o = only (asks_own false w f) _ g e in
      weaker false g (from_store w f g) _ false _ (any_chosen (from_store w f g) _) (way_starts w f g o.0 out (way w.state w.toloop f) o.1)

pub begins : (k : Bool) (g : ℕ) (c : Call) (w : World) → own_frame k c w (step c w).said ≡ g ∷ [] →
    Under k g (any (fetched to_loop c w (step c w).said)) false (step c w).world.state
unfolding own_frame fetched not_refused outcome
begins k g (on (loop_frame f)) w e =
    by_refusal Begins (on (loop_frame f)) w (λ _. frame_begins w f g k) (λ _ e. absurd (false≢true (ap any (only (asks_own k w f) [] g e).1))) e
  where
    Begins : Did → Type 0
    Begins d = cond (asks_own k w f) (data_frame d.said) [] ≡ g ∷ [] → Under k g (fetches w f g d.said) false d.world.state
begins k g (create m) w e = absurd (false≢true (ap any e))
begins k g (show side) w e = absurd (false≢true (ap any e))
begins k g (on reset) w e = absurd (false≢true (ap any e))
begins k g (on (bus_command c)) w e = absurd (false≢true (ap any e))
begins k g (on (bus_byte b mark)) w e = absurd (false≢true (ap any e))
begins k g (on bus_fetch) w e = absurd (false≢true (ap any e))
begins k g (on bus_clear) w e = absurd (false≢true (ap any e))
begins k g (on bus_lines) w e = absurd (false≢true (ap any e))
