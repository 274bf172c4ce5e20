-- A data frame is held back exactly where the law says so, and goes on when 5,66 has come round. Assumes nothing.
use Prim.Native.Nat.{ℕ, ◌+◌, ◌<◌}
use native.Mathlib.Omega.{arith}
use mathlib.Core.Path.{◌≡◌, refl, sym, ap, subst, ◌∙◌}
use mathlib.Core.Bool.{Bool, true, false, ◌&&◌, ◌||◌, not, true≢false, false≢true}
use mathlib.Core.List.{List, [], ◌∷◌}
use lib.Dec.{eqb, leb}
use lib.ListN.{length, length-map}
use borrow.Author.Tests.{eqb-true, eq-eqb, ltb-true, leb-false, lt-leb}
use Rattle.branches.proofs.Branches.{and_left, and_right, by_cond, same_test}
use Rattle.machine.specs.Machine.{Obeys, seen, course, finally}
use Rattle.machine.specs.Course.{Without}
use Rattle.machine.proofs.Course.{neither, first_not}
use Rattle.answers.specs.Refusals.{first_refusal}
use Rattle.answers.specs.Answers.{frame, said}
use Rattle.frame.specs.Frame.{control_of, data_of, made, is_data}
use Rattle.frame.proofs.Laws.{control_service}
use Rattle.store.specs.declared.Ring.{Ring}
use Rattle.store.specs.Ring.{held, full, room, put_ring}
use Rattle.store.proofs.Laws.{held_length, ring_len, put_cap}
use Rattle.bus.specs.Bus.{clears}
use Rattle.mailstate.specs.declared.State.{State}
use Rattle.mailstate.specs.declared.Hold.{Hold}
use Rattle.mailstate.specs.Outcome.{Outcome}
use Rattle.mailloop.specs.Sends.{serviced, ended, sends, send_waiting, send_id, send_accessory, send_status}
use Rattle.mailloop.specs.Messages.{ready, identify, holds_back, heard, data_taken, frame_taken}
use Rattle.mailloop.specs.Messages as messages
use Rattle.mailbox.specs.BusSide as bus-side
use Rattle.mailbox.specs.Calls.{reset, loop_frame, bus_command, bus_byte, bus_fetch, bus_clear, bus_lines, Call, create, show, on}
use Rattle.mailbox.specs.Calls.{World, Did, outcome, not_refused, checks, step}
use Rattle.maillaws.specs.Mailboxes.{mailbox}
use Rattle.maillaws.specs.Sights.{to_bus, counted, waits, taken, loop_listens, restarts}
use Rattle.maillaws.specs.NotReady.{as_frame, requested, holds_now, HoldRight, HoldsBack, ends_hold, Released}
use Rattle.maillaws.proofs.Refusal.{by_refusal, frame_fitting}
use Rattle.maillaws.proofs.FitParts.{Parts, parts}
use Rattle.maillaws.proofs.Fetching.{Fetching, is_none, is_given, is_status, fetching}
use Rattle.maillaws.proofs.Replied.{loop_taken}
use Rattle.maillaws.proofs.FrameWays.{Way, way, is_next, is_next_id, is_back, is_last, is_damaged, is_held, is_heard, is_passed}
use Rattle.maillaws.proofs.FrameWays.{is_cleared, is_obeyed, is_released, is_assigned, is_send_asked, is_told, is_finishing, is_id_asked}
use Rattle.maillaws.proofs.FrameWays.{is_accessory, is_ready, is_identified}

-- two tests of numbers that hold in the same cases
same_equal : (a b c d : ℕ) → (a ≡ b → c ≡ d) → (c ≡ d → a ≡ b) → eqb a b ≡ eqb c d
same_equal a b c d f g = same_test (eqb a b) (eqb c d) (λ h. eq-eqb c d (f (eqb-true a b h))) (λ h. eq-eqb a b (g (eqb-true c d h)))

-- the frame f is held back
abbrev holding : ℕ → Hold
holding f = record { enabled = true; held = true; frame = f }

-- ---- a data frame to a listener

module _ (w : World) (f : ℕ) (e : first_refusal (checks (on (loop_frame f)) w) ≡ 0) (D : is_data f ≡ true) (l : loop_listens w ≡ true) where
  p : Parts w.tobus w.toloop w.state
  p = parts w.tobus w.toloop w.state (frame_fitting f w e).0

  -- a listener is no talker, and so it hears the frame
  is_heard_lem : frame_taken w.state w.toloop f ≡ heard w.state f
  unfolding frame_taken data_taken
  is_heard_lem = rw (D, lt-leb 2 w.state.talker.role.phase (omega (arith, p.talker.role.apart l)), l)

  -- there is a place for its byte
  has_room : w.state.tobus.ring.len < w.state.tobus.ring.cap
  has_room = leb-false _ _ (sym (λ i. (l i && D i) && full w.state.tobus.ring) ∙ (frame_fitting f w e).1.1)

  -- one place stays free, by what waits and by the ring
  pub one_free : holds_now w ≡ holds_back w.state
  one_free =
      ap (λ (t : Bool). (w.state.hold.enabled && not w.state.hold.held) && t)
      (same_equal (length (waits to_bus w) + 2) (length w.tobus) (room (put_ring r)) 1
      (λ h. omega (arith, waiting, ring_len r has_room, put_cap r, p.tobus.cap))
      (λ h. omega (arith, waiting, ring_len r has_room, put_cap r, p.tobus.cap)))
    where
      r : Ring
      r = w.state.tobus.ring

      waiting : length (waits to_bus w) ≡ r.len
      waiting = length-map (held w.tobus r) counted ∙ held_length w.tobus r p.tobus

  hold_right : (v : World) →
      HoldRight f (record { call = on (loop_frame f); before = w; answer = said (frame_taken w.state w.toloop f).answer; after = v })
  unfolding heard serviced said
  hold_right v = record { held = λ h. rw (is_heard_lem, sym one_free ∙ h); passes = λ h. rw (is_heard_lem, sym one_free ∙ h) }

  -- a frame that goes on is a data frame still
  data_still : control_of (serviced w.state f) < 4
  unfolding serviced
  data_still =
      by_cond (λ (n : ℕ). control_of n < 4) w.state.toloop.news.request _ _
      (λ _. omega (arith, control_service f, ltb-true (control_of f) 4 D)) (λ _. ltb-true (control_of f) 4 D)

  -- so one that is answered by 5,66 is held back
  abbrev HeldIf : Outcome → Type 0
  HeldIf o = said o.answer ≡ frame 5 66 → o.state.hold ≡ holding f

  is_held_lem : HeldIf (frame_taken w.state w.toloop f)
  unfolding heard said
  is_held_lem =
      subst HeldIf (sym is_heard_lem)
      (by_cond HeldIf (holds_back w.state) _ _ (λ _ _. refl)
      (λ _ q. let k : control_of (serviced w.state f) ≡ 5 = cc in absurd (omega (arith, data_still))))

-- a law of one call, by that call
pub at_call : (P : Call → Type 0) (d : Call) → P d → (c : Call) → c ≡ d → P c
at_call P d p c e = subst P (sym e) p

pub holds_back_lem : Obeys (mailbox step) HoldsBack
unfolding not_refused outcome
holds_back_lem c w _ f =
    at_call (λ (x : Call). taken (step x w).said ≡ true → is_data f ≡ true → loop_listens w ≡ true → HoldRight f (seen (mailbox step) x w)) (on (loop_frame f))
    (by_refusal (λ (d : Did). taken d.said ≡ true → is_data f ≡ true → loop_listens w ≡ true →
    HoldRight f (record { call = on (loop_frame f); before = w; answer = d.said; after = d.world })) (on (loop_frame f)) w
    (λ e _ D l. hold_right w f e D l _) (λ _ h. absurd (false≢true h)))
    c

-- ---- a frame that is held back stays so

module _ (s : State) (cells : List ℕ) (f : ℕ) (h : s.hold.held ≡ true) (n : (eqb (control_of f) 4 || eqb f (made 5 66)) ≡ false) where
  abbrev Stays : Outcome → Type 0
  Stays o = o.state.hold ≡ s.hold

  waiting_stays : Stays (send_waiting s cells)
  unfolding send_waiting ended sends
  waiting_stays = by_cond Stays (eqb s.toloop.ring.len 0) _ _ (λ _. refl) (λ _. refl)

  id_stays : (k : ℕ) → Stays (send_id s k)
  unfolding send_id ended sends
  id_stays k = by_cond Stays (leb 10 k) _ _ (λ _. refl) (λ _. refl)

  no_command : eqb (control_of f) 4 ≡ true → ⊥
  no_command q = false≢true (sym (neither (eqb (control_of f) 4) (eqb f (made 5 66)) n).0 ∙ q)

  way_stays : (o : Outcome) → Way s cells f o → Stays o
  unfolding ended sends send_status send_accessory messages.released identify
  way_stays o (is_next r z) = waiting_stays
  way_stays o (is_next_id r z) = id_stays s.source
  way_stays o (is_back r m k) = refl
  way_stays o (is_last r m k e) = refl
  way_stays o (is_damaged r m) = refl
  way_stays o (is_held r l e) = absurd (not_held (and_right s.hold.enabled _ (and_left (s.hold.enabled && not s.hold.held) _ e)))
    where
      not_held : not s.hold.held ≡ true → ⊥
      not_held q = false≢true (sym (ap not h) ∙ q)
  way_stays o (is_heard r l e) = refl
  way_stays o (is_passed r l) = refl
  way_stays o (is_cleared r c) = absurd (no_command r.four)
  way_stays o (is_obeyed r c) = absurd (no_command r.four)
  way_stays o (is_released r e) = absurd (false≢true (sym (neither (eqb (control_of f) 4) (eqb f (made 5 66)) n).1 ∙ round))
    where
      round : eqb f (made 5 66) ≡ true
      round = eq-eqb f (made 5 66) (omega (arith, eqb-true (control_of f) 5 r.five, eqb-true (data_of f) 66 (and_left (eqb (data_of f) 66) s.hold.held e)))
  way_stays o (is_assigned r e a) = refl
  way_stays o (is_send_asked r x) = waiting_stays
  way_stays o (is_told r x y) = refl
  way_stays o (is_finishing r x y z) = refl
  way_stays o (is_id_asked r x y z u) = id_stays 0
  way_stays o (is_accessory r x y z u v) = refl
  way_stays o (is_ready r x y z u v) = refl
  way_stays o (is_identified r) = refl

fetch_stays : (s : State) (cells : List ℕ) (o : Outcome) → Fetching s cells o → o.state.hold ≡ s.hold
unfolding bus-side.status_given
fetch_stays s cells o is_none = refl
fetch_stays s cells o (is_given h) = refl
fetch_stays s cells o is_status = refl

-- whatever is called, unless that ends the holding
call_stays : (c : Call) (w : World) → w.state.hold.held ≡ true → ends_hold c w (step c w).said ≡ false → (step c w).world.state.hold ≡ w.state.hold
unfolding not_refused outcome ends_hold restarts said bus-side.bus_command bus-side.bus_byte bus-side.bus_clear bus-side.bus_lines
call_stays c w h =
    by_refusal (λ (d : Did). ends_hold c w d.said ≡ false → d.world.state.hold ≡ w.state.hold) c w (done c) (λ _ _. refl)
  where
    done : (c : Call) → first_refusal (checks c w) ≡ 0 → ends_hold c w (not_refused c w).said ≡ false → (not_refused c w).world.state.hold ≡ w.state.hold
    done (create a) e n = absurd (true≢false n)
    done (show side) e n = refl
    done (on reset) e n = absurd (true≢false n)
    done (on (loop_frame f)) e n =
        way_stays w.state w.toloop f h
        ((λ i. not (sym (loop_taken f w e) i) && (eqb (control_of f) 4 || eqb f (made 5 66))) ∙ n)
        (frame_taken w.state w.toloop f) (way w.state w.toloop f)
    done (on (bus_command k)) e n = by_cond (λ (t : State). t.hold ≡ w.state.hold) (clears w.state.bus k) _ _ (λ _. refl) (λ _. refl)
    done (on (bus_byte b mark)) e n = by_cond (λ (t : State). t.hold ≡ w.state.hold) w.state.bus.role.listener _ _ (λ _. refl) (λ _. refl)
    done (on bus_fetch) e n = fetch_stays w.state w.tobus _ (fetching w.state w.tobus)
    done (on bus_clear) e n = refl
    done (on bus_lines) e n = refl

run_stays : (cs : List Call) (w : World) → w.state.hold.held ≡ true → Without ends_hold (course (mailbox step) cs w) →
    (finally (mailbox step) cs w).state.hold ≡ w.state.hold
unfolding course finally
run_stays [] w h n = refl
run_stays (c ∷ cs) w h n =
    let m = first_not ends_hold (seen (mailbox step) c w) (course (mailbox step) cs (step c w).world) n in
    let q = call_stays c w h m.0 in
    run_stays cs (step c w).world (ap (λ (x : Hold). x.held) q ∙ h) m.1 ∙ q

-- ---- and goes on

goes_on : (f : ℕ) (w : World) → w.state.hold ≡ holding f → taken (step (on (loop_frame (made 5 66))) w).said ≡ true →
    (step (on (loop_frame (made 5 66))) w).said ≡ as_frame (requested w f)
unfolding not_refused outcome said frame_taken ready messages.released serviced
goes_on f w q =
    by_refusal (λ (d : Did). taken d.said ≡ true → d.said ≡ as_frame (requested w f)) (on (loop_frame (made 5 66))) w
    (λ _ _. rw q) (λ _ h. absurd (false≢true h))

pub released : Obeys (mailbox step) Released
unfolding not_refused outcome
released c cs d w _ _ _ f q D l a n t =
    at_call (λ (x : Call). taken (step x v).said ≡ true → (step x v).said ≡ as_frame (requested v f)) (on (loop_frame (made 5 66)))
    (goes_on f v (run_stays cs (step c w).world (ap (λ (x : Hold). x.held) first) n ∙ first))
    d t
  where
    v : World
    v = finally (mailbox step) cs (step c w).world

    first : (step c w).world.state.hold ≡ holding f
    first =
        at_call (λ (x : Call). (step x w).said ≡ frame 5 66 → (step x w).world.state.hold ≡ holding f) (on (loop_frame f))
        (by_refusal (λ (d : Did). d.said ≡ frame 5 66 → d.world.state.hold ≡ holding f) (on (loop_frame f)) w
        (λ e z. is_held_lem w f e D l z) (λ _ z. let y : ◌≡◌ {A = ℕ} 0 1 = cc in absurd (omega arith)))
        c q a
