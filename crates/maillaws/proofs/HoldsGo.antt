-- How not ready and the loop's response to polls go, over every call: one walk of a frame's ways for both. Assumes nothing.
use Prim.Native.Nat.{ℕ, ◌/◌, ◌%◌, ◌≤◌, ◌<◌}
use native.Mathlib.Omega.{arith}
use mathlib.Core.Path.{◌≡◌, refl, sym, ap, ◌∙◌}
use mathlib.Core.Bool.{Bool, true, false, cond, ◌&&◌, ◌||◌, not, true≢false}
use mathlib.Core.List.{List}
use lib.Dec.{eqb, leb, ltb}
use borrow.Author.Tests.{eqb-true, eq-eqb, le-leb, leb-true, lt-ltb, ltb-true}
use Rattle.branches.proofs.Branches.{by_cond, and_left, and_right, same_test}
use Rattle.machine.specs.Machine.{Obeys}
use Rattle.answers.specs.Refusals.{first_refusal}
use Rattle.answers.specs.Answers.{said, refused}
use Rattle.frame.specs.Frame.{control_of, data_of, made, is_data}
use Rattle.polls.specs.declared.Response.{Response}
use Rattle.polls.specs.Polls.{no_response, loop_response}
use Rattle.bus.specs.Bus.{clears}
use Rattle.mailstate.specs.declared.Hold.{Hold}
use Rattle.mailstate.specs.declared.State.{State}
use Rattle.mailstate.specs.Outcome.{Outcome}
use Rattle.mailloop.specs.Sends.{ended, sends, send_waiting, send_id, send_accessory, send_status}
use Rattle.mailloop.specs.Messages.{response_after, released, identify, frame_taken}
use Rattle.mailloop.specs.Messages as messages
use Rattle.mailbox.specs.BusSide as bus-side
use Rattle.mailbox.specs.Calls.{reset, loop_frame, bus_command, bus_byte, bus_fetch, bus_clear, bus_lines, Call, create, show, on}
use Rattle.mailbox.specs.Calls.{World, Did, checks, outcome, not_refused, step}
use Rattle.maillaws.specs.Mailboxes.{mailbox}
use Rattle.maillaws.specs.Sights.{taken, on_frame, loop_listens, restarts}
use Rattle.maillaws.specs.StateFits.{Fits}
use Rattle.maillaws.specs.PollsTold.{response_by, responded_by, ResponseGoes}
use Rattle.maillaws.specs.HoldGoing.{held_by, HoldGoes}
use Rattle.maillaws.proofs.Refusal.{by_refusal, frame_fitting}
use Rattle.maillaws.proofs.Fields.{listener_idle}
use Rattle.maillaws.proofs.FrameTests.{frame_is, data_not, no_frame_by_control}
use Rattle.maillaws.proofs.HeldBack.{one_free}
use Rattle.maillaws.proofs.Replied.{loop_taken}
use Rattle.maillaws.proofs.Fetching.{Fetching, is_none, is_given, is_status, fetching}
use Rattle.maillaws.proofs.FrameWays.{Way, way, Returning, Commanding, Readying, Asking, is_next, is_next_id, is_back, is_last, is_damaged}
use Rattle.maillaws.proofs.FrameWays.{is_held, is_heard, is_passed, is_cleared, is_obeyed, is_released, is_assigned, is_send_asked, is_told, is_finishing}
use Rattle.maillaws.proofs.FrameWays.{is_id_asked, is_accessory, is_ready, is_identified}

-- ---- the response after a command

module _ (w : World) (d : ℕ) where
  enabling : eqb (d / 16) 8 ≡ (leb 128 d && ltb d 144)
  enabling =
      same_test (eqb (d / 16) 8) (leb 128 d && ltb d 144)
      (λ h. let k = eqb-true (d / 16) 8 h in λ i. le-leb 128 d (omega arith) i && lt-ltb d 144 (omega arith) i)
      (λ h. eq-eqb (d / 16) 8 (omega (arith, leb-true 128 d (and_left _ _ h), ltb-true d 144 (and_right (leb 128 d) _ h))))

  sensing : 128 ≤ d → d < 144 → eqb (d / 8 % 2) 1 ≡ leb 136 d
  sensing l h =
      same_test (eqb (d / 8 % 2) 1) (leb 136 d) (λ e. let k = eqb-true (d / 8 % 2) 1 e in le-leb 136 d (omega arith))
      (λ e. eq-eqb (d / 8 % 2) 1 (omega (arith, leb-true 136 d e)))

  response_right : response_after w.state d ≡ response_by w d
  unfolding response_after
  response_right = rw enabling (ends (eqb d 5 && loop_listens w) (eqb d 21))
    where
      sets : cond ((leb 128 d && ltb d 144) && loop_listens w) (loop_response d) w.state.response ≡
          cond ((leb 128 d && ltb d 144) && loop_listens w) (record { on = true; line = d % 8; sense = leb 136 d }) w.state.response
      sets =
          by_cond
          (λ (p : Response). p ≡ cond ((leb 128 d && ltb d 144) && loop_listens w) (record { on = true; line = d % 8; sense = leb 136 d }) w.state.response)
          ((leb 128 d && ltb d 144) && loop_listens w) _ _
          (λ e. let k = and_left (leb 128 d && ltb d 144) _ e in
          (λ i. record { on = true; line = d % 8; sense = sensing (leb-true 128 d (and_left _ _ k)) (ltb-true d 144 (and_right (leb 128 d) _ k)) i })
          ∙ sym (ap (λ (t : Bool). cond t (record { on = true; line = d % 8; sense = leb 136 d }) w.state.response) e))
          (λ e. sym (ap (λ (t : Bool). cond t (record { on = true; line = d % 8; sense = leb 136 d }) w.state.response) e))

      ends : (a b : Bool) →
          cond (a || b) no_response (cond ((leb 128 d && ltb d 144) && loop_listens w) (loop_response d) w.state.response) ≡
          cond (b || a) no_response
          (cond ((leb 128 d && ltb d 144) && loop_listens w) (record { on = true; line = d % 8; sense = leb 136 d }) w.state.response)
      ends true true = refl
      ends true false = refl
      ends false true = refl
      ends false false = sets

-- ---- a frame

module _ (w : World) (f : ℕ) (e : first_refusal (checks (on (loop_frame f)) w) ≡ 0) where
  abbrev s : State
  s = w.state

  -- what is held back, and how polls are answered
  abbrev Goes : Hold → Response → Type 0
  Goes h p = (h ≡ held_by w f) × (p ≡ responded_by w f)

  abbrev Leaves : Outcome → Type 0
  Leaves o = Goes o.state.hold o.state.response

  F : Fits w
  F = (frame_fitting f w e).0

  -- a data frame to whoever does not listen, and to a listener
  unheard : is_data f ≡ true → loop_listens w ≡ false → Goes w.state.hold w.state.response
  unheard D l = (rw (D, l), rw (data_not f 4 D (omega arith)))

  returning : Returning w.state f → Goes w.state.hold w.state.response
  returning r = unheard r.isdata (idle (loop_listens w) refl)
    where
      idle : (t : Bool) → loop_listens w ≡ t → t ≡ false
      idle true l = absurd (true≢false (sym r.active ∙ listener_idle w F l))
      idle false l = refl

  hearing : (D : is_data f ≡ true) (l : loop_listens w ≡ true) (t : Bool) → messages.holds_back w.state ≡ t →
      Goes (cond t (record { enabled = true; held = true; frame = f }) w.state.hold) w.state.response
  hearing D l t h = (rw (D, l, one_free w f e D l ∙ h), rw (data_not f 4 D (omega arith)))

  commanding : Commanding f → Goes (record { enabled = eqb (data_of f) 15 && loop_listens w; held = false; frame = 0 }) (response_after w.state (data_of f))
  commanding r = (
    rw (r.isdata, r.four),
    response_right w (data_of f) ∙ sym (ap (λ (t : Bool). cond t (response_by w (data_of f)) w.state.response) r.four),
  )

  -- any other frame, by whether it releases
  other : is_data f ≡ false → eqb (control_of f) 4 ≡ false → (t : Bool) → (eqb f (made 5 66) && w.state.hold.held) ≡ t →
      Goes (cond t (record { enabled = w.state.hold.enabled; held = false; frame = 0 }) w.state.hold) w.state.response
  other D C t h = (rw (D, C, h), rw C)

  round : Readying f → (eqb f (made 5 66) && w.state.hold.held) ≡ (eqb (data_of f) 66 && w.state.hold.held)
  round r = ap (λ (t : Bool). t && w.state.hold.held) (frame_is f 5 66 (omega arith) ∙ (λ i. r.five i && eqb (data_of f) 66))

  asking : Asking w.state f → Goes w.state.hold w.state.response
  asking r = other r.readying.isdata r.readying.four false (round r.readying ∙ r.unheld)

  waiting_goes : Goes w.state.hold w.state.response → Leaves (send_waiting w.state w.toloop)
  unfolding send_waiting ended sends
  waiting_goes g = by_cond Leaves (eqb w.state.toloop.ring.len 0) _ _ (λ _. g) (λ _. g)

  id_goes : (k : ℕ) → Goes w.state.hold w.state.response → Leaves (send_id w.state k)
  unfolding send_id ended sends
  id_goes k g = by_cond Leaves (leb 10 k) _ _ (λ _. g) (λ _. g)

  way_goes : (o : Outcome) → Way w.state w.toloop f o → Leaves o
  unfolding ended sends send_status send_accessory released identify
  way_goes o (is_next r z) = waiting_goes (returning r.back)
  way_goes o (is_next_id r z) = id_goes w.state.source (returning r.back)
  way_goes o (is_back r m k) = returning r
  way_goes o (is_last r m k x) = returning r
  way_goes o (is_damaged r m) = returning r
  way_goes o (is_held r l h) = hearing r.isdata l true h
  way_goes o (is_heard r l h) = hearing r.isdata l false h
  way_goes o (is_passed r l) = unheard r.isdata l
  way_goes o (is_cleared r c) = commanding r
  way_goes o (is_obeyed r c) = commanding r
  way_goes o (is_released r h) = other r.isdata r.four true (round r ∙ h)
  way_goes o (is_assigned r h a) = other r.isdata r.four false (round r ∙ h)
  way_goes o (is_send_asked r x) = waiting_goes (asking r)
  way_goes o (is_told r x y) = asking r
  way_goes o (is_finishing r x y z) = asking r
  way_goes o (is_id_asked r x y z u) = id_goes 0 (asking r)
  way_goes o (is_accessory r x y z u v) = asking r
  way_goes o (is_ready r x y z u v) = asking r
  way_goes o (is_identified r) =
      other r.isdata r.four false (ap (λ (t : Bool). t && w.state.hold.held) (no_frame_by_control f 5 66 (omega arith) r.five))

-- ---- every call

-- by a frame that is taken, and else as they were
abbrev Gone : Call → World → Did → Type 0
Gone c w d =
    restarts c d.said ≡ false →
    (d.world.state.hold ≡ on_frame (λ f. cond (taken d.said) (held_by w f) w.state.hold) w.state.hold c)
    × (d.world.state.response ≡ on_frame (λ f. cond (taken d.said) (responded_by w f) w.state.response) w.state.response c)

abbrev Alone : State → State → Type 0
Alone s t = (t.hold ≡ s.hold) × (t.response ≡ s.response)

fetch_alone : (s : State) (cells : List ℕ) (o : Outcome) → Fetching s cells o → Alone s o.state
unfolding bus-side.status_given
fetch_alone s cells o is_none = (refl, refl)
fetch_alone s cells o (is_given h) = (refl, refl)
fetch_alone s cells o is_status = (refl, refl)

done_gone : (c : Call) (w : World) → first_refusal (checks c w) ≡ 0 → Gone c w (not_refused c w)
unfolding not_refused outcome restarts said bus-side.bus_command bus-side.bus_byte bus-side.bus_clear bus-side.bus_lines
done_gone (create a) w e q = absurd (true≢false q)
done_gone (show side) w e q = (refl, refl)
done_gone (on reset) w e q = absurd (true≢false q)
done_gone (on (loop_frame f)) w e q =
    let g = way_goes w f e (frame_taken w.state w.toloop f) (way w.state w.toloop f) in (
      g.0 ∙ sym (ap (λ (t : Bool). cond (not t) (held_by w f) w.state.hold) (loop_taken f w e)),
      g.1 ∙ sym (ap (λ (t : Bool). cond (not t) (responded_by w f) w.state.response) (loop_taken f w e)),
    )
done_gone (on (bus_command k)) w e q = by_cond (Alone w.state) (clears w.state.bus k) _ _ (λ _. (refl, refl)) (λ _. (refl, refl))
done_gone (on (bus_byte b mark)) w e q = by_cond (Alone w.state) w.state.bus.role.listener _ _ (λ _. (refl, refl)) (λ _. (refl, refl))
done_gone (on bus_fetch) w e q = fetch_alone w.state w.tobus _ (fetching w.state w.tobus)
done_gone (on bus_clear) w e q = (refl, refl)
done_gone (on bus_lines) w e q = (refl, refl)

refused_gone : (c : Call) (w : World) (n : ℕ) → Gone c w (record { said = refused n; world = w })
refused_gone (create a) w n q = (refl, refl)
refused_gone (show side) w n q = (refl, refl)
refused_gone (on reset) w n q = (refl, refl)
refused_gone (on (loop_frame f)) w n q = (refl, refl)
refused_gone (on (bus_command k)) w n q = (refl, refl)
refused_gone (on (bus_byte b mark)) w n q = (refl, refl)
refused_gone (on bus_fetch) w n q = (refl, refl)
refused_gone (on bus_clear) w n q = (refl, refl)
refused_gone (on bus_lines) w n q = (refl, refl)

gone : (c : Call) (w : World) → Gone c w (step c w)
gone c w = by_refusal (Gone c w) c w (done_gone c w) (λ _. refused_gone c w _)

pub hold_goes : Obeys (mailbox step) HoldGoes
hold_goes c w _ q = (gone c w q).0

pub response_goes : Obeys (mailbox step) ResponseGoes
response_goes c w _ q = (gone c w q).1
