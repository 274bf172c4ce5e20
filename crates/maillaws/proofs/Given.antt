-- What a side is given when it asks: the oldest that waits for it. Assumes nothing.
use Prim.Native.Nat.{ℕ, ◌<◌}
use native.Mathlib.Omega.{arith}
use mathlib.Core.Path.{◌≡◌, refl, sym, ap, subst, ◌∙◌}
use mathlib.Core.Bool.{Bool, true, false, cond, ◌&&◌, ◌||◌, not, and-eq-true_iff, or-true, true≢false, false≢true}
use mathlib.Core.List.{List, [], ◌∷◌, map}
use lib.Dec.{eqb, leb}
use lib.ListN.{length, get_or, drop}
use borrow.Author.Tests.{eqb-true, eqb-false, eq-eqb, ne_eqb, le-leb, leb-true, leb-false, not-true}
use Rattle.branches.proofs.Branches.{by_cond, cond_true, cond_false, and_left, and_right}
use Rattle.machine.specs.Machine.{Obeys, seen}
use Rattle.frame.specs.Frame.{made, is_data, same_apart}
use Rattle.answers.specs.Answers.{said, none, frame}
use Rattle.role.specs.ReadyFrames.{ready_of}
use Rattle.talker.specs.declared.Talker.{Talker}
use Rattle.talker.specs.Returning.{return_of}
use Rattle.store.specs.declared.Ring.{Ring}
use Rattle.store.specs.Ring.{Fit, held, drop_ring}
use Rattle.store.proofs.Laws.{held_length, held_drop}
use Rattle.way.specs.Way as way
use Rattle.news.specs.News.{news_byte}
use Rattle.bus.specs.declared.Bus.{Bus}
use Rattle.bus.specs.declared.Fetch.{Fetch}
use Rattle.bus.specs.declared.Fetch.TheVariants.{Silent, Status, Data}
use Rattle.bus.specs.Bus.{fetch_of}
use Rattle.mailstate.specs.declared.State.{State}
use Rattle.mailstate.specs.Outcome.{Outcome}
use Rattle.mailstate.proofs.Fits.{tobus_fits, toloop_fits}
use Rattle.mailloop.specs.Sends.{serviced, ended, sends, send_waiting, send_next}
use Rattle.mailloop.specs.Messages.{readied, ready, judged, data_taken, frame_taken}
use Rattle.mailbox.specs.BusSide as bus-side
use Rattle.mailbox.specs.Calls.{loop_frame, bus_fetch, Call, on, World, Did, outcome, tobus_after, toloop_after, not_refused, step}
use Rattle.maillaws.specs.Mailboxes.{mailbox}
use Rattle.maillaws.specs.Sights.{to_loop, counted, waits, taken, data_cell, cell_said, loop_active, loop_addressed, from_way, fetched}
use Rattle.maillaws.specs.StateFits.{Fits}
use Rattle.maillaws.specs.Giving.{first_of, rest_of, asks_loop, GivesFirst, LoopGiven, BusRight, BusGiven}
use Rattle.maillaws.proofs.Refusal.{by_refusal, fitting}
use Rattle.maillaws.proofs.FrameTests.{cell_carried}

-- ---- the oldest of what waits

-- of xs this is given, ys wait on, and what ends is so where nothing waits
record Gives (xs given ys : List ℕ) (Ends : Type 0) : Type 0 where
  first : given ≡ first_of (map counted xs)
  rest : map counted ys ≡ rest_of (map counted xs)
  ends : map counted xs ≡ [] → Ends

gives_none : (xs : List ℕ) (Ends : Type 0) → length xs ≡ 0 → Ends → Gives xs [] xs Ends
gives_none [] E h e = record { first = refl; rest = refl; ends = λ _. e }
gives_none (x ∷ xs) E h e = absurd (omega arith)

gives_some : (xs given ys : List ℕ) (Ends : Type 0) → 0 < length xs → given ≡ counted (get_or xs 0 0) ∷ [] → ys ≡ drop 1 xs → Gives xs given ys Ends
gives_some [] given ys E h e d = absurd (omega arith)
gives_some (x ∷ xs) given ys E h e d =
    record { first = e; rest = ap (map counted) d; ends = λ n. absurd (let z : ◌≡◌ {A = ℕ} 0 1 = cc in omega arith) }

module _ (cells : List ℕ) (r : Ring) (f : Fit cells r) where
  none_given : (Ends : Type 0) → eqb r.len 0 ≡ true → Ends → Gives (held cells r) [] (held cells r) Ends
  none_given E h = gives_none (held cells r) E (held_length cells r f ∙ eqb-true r.len 0 h)

  some_given : (given : List ℕ) (Ends : Type 0) → eqb r.len 0 ≡ false → given ≡ counted (get_or (held cells r) 0 0) ∷ [] →
      Gives (held cells r) given (held cells (drop_ring r 1)) Ends
  some_given given E h e =
      let n = eqb-false r.len 0 h in
      gives_some (held cells r) given _ E (omega (arith, held_length cells r f)) e (held_drop cells r 1 f (omega arith))

-- ---- the loop

module _ (s : State) (cells : List ℕ) where
  abbrev LoopGives : Outcome → Type 0
  LoopGives o = Gives (held cells s.toloop.ring) (data_cell (said o.answer)) (held cells o.state.toloop.ring) (said o.answer ≡ frame 5 64)

  waiting_given : Fit cells s.toloop.ring → LoopGives (send_waiting s cells)
  unfolding send_waiting sends ended serviced said way.fetched
  waiting_given f =
      by_cond LoopGives (eqb s.toloop.ring.len 0) _ _ (λ e. none_given cells s.toloop.ring f _ e refl)
      (λ e. some_given cells s.toloop.ring f _ _ e (cell_carried s.toloop.news.request (get_or (held cells s.toloop.ring) 0 0) _ refl))

-- a frame that asks is answered by what waits, and is seen to ask
module _ (w : World) (f : ℕ) where
  abbrev t : Talker
  t = w.state.talker

  -- the two ways of asking
  abbrev asks_first : Bool
  asks_first = eqb f (made 5 96) && loop_addressed w

  abbrev asks_next : Bool
  asks_next = (is_data f && same_apart f t.under.frame) && ((eqb t.role.phase 2 && not t.under.finishing) && from_way w)

  record Asked : Type 0 where
    sends : frame_taken w.state w.toloop f ≡ send_waiting w.state w.toloop
    seen : (eqb f (made 5 96) || (is_data f && (loop_active w && from_way w))) ≡ true

  first_asked : asks_first ≡ true → Asked
  unfolding frame_taken ready readied ready_of
  first_asked h =
      let a = and_right (eqb f (made 5 96)) _ h in
      record { sends = rw (eqb-true f (made 5 96) (and_left _ _ h), a); seen = rw (and_left (eqb f (made 5 96)) _ h) }

  next_asked : asks_next ≡ true → Asked
  unfolding frame_taken data_taken return_of judged send_next
  next_asked h =
      let x = (and-eq-true_iff (is_data f && same_apart f t.under.frame) _).0 h in
      let y = (and-eq-true_iff (is_data f) _).0 x.0 in
      let z = (and-eq-true_iff (eqb t.role.phase 2 && not t.under.finishing) _).0 x.1 in
      let u = (and-eq-true_iff (eqb t.role.phase 2) _).0 z.0 in
      let two = eqb-true t.role.phase 2 u.0 in
      let active = le-leb 2 t.role.phase (omega arith) in
      record {
        sends = rw (y.0, active, y.1, ne_eqb t.role.phase 3 (λ e. omega arith), not-true t.under.finishing u.1, z.1);
        seen = rw (y.0, active, z.1, or-true);
      }

  asked : asks_loop w f ≡ true → Asked
  asked h = go asks_first refl h
    where
      go : (b : Bool) → asks_first ≡ b → (b || asks_next) ≡ true → Asked
      go true e _ = first_asked e
      go false _ e = next_asked e

  abbrev LoopRight : Did → Type 0
  LoopRight d =
      GivesFirst to_loop (record { call = on (loop_frame f); before = w; answer = d.said; after = d.world })
      × (waits to_loop w ≡ [] → d.said ≡ frame 5 64)

  loop_done : Fits w → asks_loop w f ≡ true → LoopRight (not_refused (on (loop_frame f)) w)
  unfolding not_refused outcome toloop_after fetched
  loop_done F h =
      let a = asked h in
      let g = waiting_given w.state w.toloop (toloop_fits w.state w.tobus w.toloop F) in
      let x = subst (LoopGives w.state w.toloop) (sym a.sends) g in
      (record { first = cond_true _ _ _ a.seen ∙ x.first; rest = x.rest }, x.ends)

pub loop_given : Obeys (mailbox step) LoopGiven
loop_given c w _ f q =
    subst (λ (x : Call). taken (step x w).said ≡ true → asks_loop w f ≡ true →
    GivesFirst to_loop (seen (mailbox step) x w) × (waits to_loop w ≡ [] → (step x w).said ≡ frame 5 64)) (sym q)
    (by_refusal (λ (d : Did). taken d.said ≡ true → asks_loop w f ≡ true → LoopRight w f d) (on (loop_frame f)) w
    (λ e _. loop_done w f (fitting (loop_frame f) w e).0) (λ _ h. absurd (false≢true h)))

-- ---- the bus

module _ (b : Bus) where
  fetch_talks : leb 1 b.role.phase ≡ true → fetch_of b ≡ cond (b.serial && b.read) Silent (cond b.serial Status Data)
  unfolding fetch_of
  fetch_talks t = cond_false _ _ _ (ne_eqb b.role.phase 0 (λ e. omega (arith, leb-true 1 b.role.phase t)))

  fetch_silent : leb 1 b.role.phase ≡ false → fetch_of b ≡ Silent
  unfolding fetch_of
  fetch_silent t = cond_true _ _ _ (eq-eqb b.role.phase 0 (omega (arith, leb-false 1 b.role.phase t)))

module _ (s : State) (cells : List ℕ) where
  abbrev BusGives : Outcome → Type 0
  BusGives o = Gives (held cells s.tobus.ring) (cell_said (said o.answer)) (held cells o.state.tobus.ring) (said o.answer ≡ none)

  data_given_lem : Fit cells s.tobus.ring → BusGives (bus-side.data_given s cells)
  unfolding bus-side.data_given said way.fetched
  data_given_lem f =
      by_cond BusGives (eqb s.tobus.ring.len 0) _ _ (λ e. none_given cells s.tobus.ring f _ e refl)
      (λ e. some_given cells s.tobus.ring f _ _ e refl)

  -- in a serial poll no data is touched
  ring_kept : s.bus.serial ≡ true → (bus-side.bus_fetch s cells).state.tobus.ring ≡ s.tobus.ring
  unfolding bus-side.bus_fetch bus-side.given bus-side.status_given fetch_of
  ring_kept n =
      by_cond R (eqb s.bus.role.phase 0) _ _ (λ _. refl)
      (λ _. by_cond R (s.bus.serial && s.bus.read) _ _ (λ _. refl)
      (λ _. by_cond R s.bus.serial _ _ (λ _. refl) (λ m. absurd (true≢false (sym n ∙ m)))))
    where
      R : Fetch → Type 0
      R k = (bus-side.given s cells k).state.tobus.ring ≡ s.tobus.ring

module _ (w : World) where
  abbrev RightFetch : Did → Type 0
  RightFetch d = BusRight (record { call = on bus_fetch; before = w; answer = d.said; after = d.world })

  bus_done : Fits w → RightFetch (not_refused (on bus_fetch) w)
  unfolding not_refused outcome tobus_after fetched bus-side.bus_fetch bus-side.given bus-side.status_given news_byte said
  bus_done F =
      record {
        waiting = λ t n.
            let k : fetch_of w.state.bus ≡ Data = rw (fetch_talks w.state.bus t, n) in
            let g = subst (λ (x : Fetch). BusGives w.state w.tobus (bus-side.given w.state w.tobus x)) (sym k)
            (data_given_lem w.state w.tobus (tobus_fits w.state w.tobus w.toloop F)) in
            (record { first = cond_false _ _ _ n ∙ g.first; rest = g.rest }, g.ends);
        status = λ t n r. rw (fetch_talks w.state.bus t, n, r);
        once = λ t n r. rw (fetch_talks w.state.bus t, n, r);
        kept = λ n. ap (λ (x : Ring). map counted (held w.tobus x)) (ring_kept w.state w.tobus n);
        silent = λ t. rw (fetch_silent w.state.bus t);
      }

pub bus_given : Obeys (mailbox step) BusGiven
bus_given c w _ q =
    subst (λ (x : Call). taken (step x w).said ≡ true → BusRight (seen (mailbox step) x w)) (sym q)
    (by_refusal (λ (d : Did). taken d.said ≡ true → RightFetch w d) (on bus_fetch) w
    (λ e _. bus_done w (fitting bus_fetch w e).0) (λ _ h. absurd (false≢true h)))
