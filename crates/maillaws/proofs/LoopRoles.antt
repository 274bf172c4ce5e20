-- How the role on the loop goes, over every call. Assumes nothing.
use Prim.Native.Nat.{ℕ, ◌-◌, ◌%◌, ◌<◌}
use native.Mathlib.Omega.{arith}
use mathlib.Core.Path.{◌≡◌, refl, sym, ap, ◌∙◌}
use mathlib.Core.Bool.{Bool, true, false, cond, ◌&&◌, ◌||◌, and-true, and-false, and_comm, true≢false}
use mathlib.Core.List.{List, [], ◌∷◌}
use lib.Dec.{eqb, leb}
use lib.ListN.{get_or}
use borrow.Author.Tests.{eqb-true, ne_eqb, lt-leb, lt-ltb}
use Rattle.branches.proofs.Branches.{by_cond, cond_true, and_left, and_right}
use Rattle.machine.specs.Machine.{Obeys}
use Rattle.frame.specs.Frame.{control_of, data_of, is_data}
use Rattle.frame.proofs.Laws.{kind_service}
use Rattle.answers.specs.Refusals.{first_refusal}
use Rattle.answers.specs.Answers.{Said, said, refused}
use Rattle.role.specs.declared.Role.{Role}
use Rattle.role.specs.Role.{with_address, with_phase}
use Rattle.role.specs.Orders.{own_address}
use Rattle.role.specs.Commands.{after_command}
use Rattle.role.specs.ReadyFrames.{gives_address}
use Rattle.role.proofs.ReadyLaws.{given, address_numbers}
use Rattle.role.proofs.ByNumbers.{role_right}
use Rattle.talker.specs.declared.Talker.{Talker}
use Rattle.talker.specs.Obeying.{obeyed_talker}
use Rattle.talker.specs.UnderWay.{talking}
use Rattle.store.specs.Ring.{held}
use Rattle.bus.specs.Bus.{clears}
use Rattle.mailstate.specs.declared.State.{State}
use Rattle.mailstate.specs.Outcome.{Outcome}
use Rattle.mailloop.specs.Sends.{serviced, ended, sends, send_waiting, send_id, send_accessory, send_status}
use Rattle.mailloop.specs.Messages.{released, identify}
use Rattle.mailbox.specs.BusSide as bus-side
use Rattle.mailbox.specs.Calls.{reset, loop_frame, bus_command, bus_byte, bus_fetch, bus_clear, bus_lines, Call, create, show, on}
use Rattle.mailbox.specs.Calls.{World, Did, checks, outcome, not_refused, step}
use Rattle.maillaws.specs.Mailboxes.{mailbox}
use Rattle.maillaws.specs.Sights.{any, taken, data_byte, on_frame, restarts}
use Rattle.maillaws.specs.StateFits.{Fits}
use Rattle.maillaws.specs.LoopRole.{commanded, asks_frames, readied, returned_to, by_frame, LoopRoleGoes}
use Rattle.maillaws.proofs.Refusal.{by_refusal, fitting}
use Rattle.maillaws.proofs.Small.{id_small, frame_small}
use Rattle.maillaws.proofs.FitParts.{parts}
use Rattle.maillaws.proofs.Fetching.{Fetching, is_none, is_given, is_status, fetching}
use Rattle.maillaws.proofs.FrameWays.{Returning, Arriving, Commanding, Readying, Identifying, Way, way}
use Rattle.maillaws.proofs.FrameWays.{is_next, is_next_id, is_back, is_last, is_damaged, is_held, is_heard, is_passed, is_cleared, is_obeyed}
use Rattle.maillaws.proofs.FrameWays.{is_released, is_assigned, is_send_asked, is_told, is_finishing, is_id_asked, is_accessory, is_ready, is_identified}

-- ---- what is sent

module _ (s : State) where
  -- a talker that answers, and is active where it answers with a data frame
  record Sent (o : Outcome) : Type 0 where
    answers : taken (said o.answer) ≡ true
    role : o.state.talker.role ≡ with_phase s.talker.role (cond (any (data_byte (said o.answer))) 2 1)

  serviced_data : (g : ℕ) → g < 1024 → is_data (serviced s g) ≡ true
  unfolding serviced
  serviced_data g h =
      let e = lt-ltb (control_of g) 4 (omega arith) in
      by_cond (λ (x : ℕ). is_data x ≡ true) s.toloop.news.request _ _ (λ _. kind_service g ∙ e) (λ _. e)

  ended_sent : Sent (ended s 64)
  unfolding ended talking said
  ended_sent = record { answers = refl; role = refl }

  sends_sent : (t : State) (g n : ℕ) → t.talker.role ≡ s.talker.role → g < 1024 → Sent (sends s t g n)
  unfolding sends talking said
  sends_sent t g n e h =
      record { answers = refl; role = λ i. with_phase (e i) (cond (any (cond (sym (serviced_data g h) i) (data_of (serviced s g) ∷ []) [])) 2 1) }

  waiting_sent : (cells : List ℕ) → Sent (send_waiting s cells)
  unfolding send_waiting
  waiting_sent cells =
      by_cond Sent (eqb s.toloop.ring.len 0) _ _ (λ _. ended_sent)
      (λ _. sends_sent _ _ 0 refl (frame_small (get_or (held cells s.toloop.ring) 0 0)))

  id_sent : (n : ℕ) → Sent (send_id s n)
  unfolding send_id
  id_sent n = by_cond Sent (leb 10 n) _ _ (λ _. ended_sent) (λ _. sends_sent s _ _ refl (omega (arith, id_small n)))

-- ---- a ready frame, by what it asks

none_asked : (p a b c : Bool) → (a && p) ≡ false → (b && p) ≡ false → (c && p) ≡ false → (p && (a || (b || c))) ≡ false
none_asked false a b c x y z = refl
none_asked true a b c x y z = rw (← and-true a, x, ← and-true b, y, ← and-true c, z)

module _ (r : Role) (d : ℕ) (b : Bool) where
  abbrev asks : ℕ → Bool
  asks n = eqb d n && eqb r.phase 1

  -- for data or an ID, and for status
  ready_sends : (n : ℕ) → n < 128 → asks_frames n ≡ true → asks n ≡ true → readied r d b ≡ with_phase r (cond b 2 1)
  unfolding readied
  ready_sends n h k e =
      let x = eqb-true d n (and_left _ _ e) in
      let y = and_right (eqb d n) _ e in
      rw (x, y, lt-leb 128 n h, k)

  ready_tells : asks 97 ≡ true → readied r d b ≡ with_phase r 3
  unfolding readied
  ready_tells e =
      let x = eqb-true d 97 (and_left _ _ e) in
      let y = and_right (eqb d 97) _ e in
      rw (x, y)

  -- for neither: an address, and nothing
  ready_only : (t : Bool) → gives_address r d ≡ t → asks 96 ≡ false → asks 97 ≡ false → asks 98 ≡ false → asks 99 ≡ false →
      readied r d b ≡ with_address r (cond t (d - 128) r.address)
  unfolding readied
  ready_only t a x y u v = rw (address_numbers r d, a, none_asked _ _ _ _ x u v, and_comm (eqb r.phase 1) (eqb d 97) ∙ y)

  ready_assigns : gives_address r d ≡ true → readied r d b ≡ with_address r (d % 32)
  ready_assigns a =
      let g = given r d a in
      let p : d - 128 ≡ d % 32 = omega arith in
      ready_only true a (high 96 (omega arith)) (high 97 (omega arith)) (high 98 (omega arith)) (high 99 (omega arith)) ∙ ap (with_address r) p
    where
      high : (n : ℕ) → (d ≡ n → ⊥) → asks n ≡ false
      high n h = λ i. ne_eqb d n h i && eqb r.phase 1

  -- and 66, whether it releases a frame, makes the one under way the last, or passes
  ready_66 : eqb d 66 ≡ true → readied r d b ≡ r
  unfolding readied
  ready_66 e = let x = eqb-true d 66 e in rw (x, and-false)

-- ---- frames

module _ (w : World) (f : ℕ) where
  abbrev r : Role
  r = w.state.talker.role

  abbrev d : ℕ
  d = data_of f

  -- what the law says of the frame, by its kind
  module _ (a : Said) where
    by_return : Returning w.state f → by_frame f r a ≡ with_phase r (cond (any (data_byte a)) 2 1)
    unfolding by_frame returned_to
    by_return q = rw (q.isdata, q.active)

    by_arrival : Arriving w.state f → by_frame f r a ≡ r
    unfolding by_frame returned_to
    by_arrival q = rw (q.isdata, q.idle)

    by_command : Commanding f → by_frame f r a ≡ commanded r d
    unfolding by_frame
    by_command q = rw (q.isdata, q.four)

    by_ready : Readying f → by_frame f r a ≡ readied r d (any (data_byte a))
    unfolding by_frame
    by_ready q = rw (q.isdata, q.four, q.five)

    by_identify : Identifying f → by_frame f r a ≡ r
    unfolding by_frame
    by_identify q = rw (q.isdata, q.four, q.five)

  abbrev Right : Outcome → Type 0
  Right o = o.state.talker.role ≡ cond (taken (said o.answer)) (by_frame f r (said o.answer)) r

  sent_right : (o : Outcome) → Sent w.state o → by_frame f r (said o.answer) ≡ with_phase r (cond (any (data_byte (said o.answer))) 2 1) → Right o
  sent_right o p e = p.role ∙ sym (cond_true (taken (said o.answer)) _ _ p.answers ∙ e)

  obeyed_right : Fits w → after_command 15 r d ≡ commanded r d
  unfolding own_address commanded
  obeyed_right F = role_right 15 (omega arith) r (parts w.tobus w.toloop w.state F).talker.role.range d

  role_way : Fits w → (o : Outcome) → Way w.state w.toloop f o → Right o
  unfolding send_status send_accessory released identify ended talking obeyed_talker said
  role_way F o (is_next q z) = sent_right o (waiting_sent w.state w.toloop) (by_return _ q.back)
  role_way F o (is_next_id q z) = sent_right o (id_sent w.state w.state.source) (by_return _ q.back)
  role_way F o (is_back q m k) = sym (by_return _ q)
  role_way F o (is_last q m k e) = sym (by_return _ q)
  role_way F o (is_damaged q m) = sym (by_return _ q)
  role_way F o (is_held q l h) = sym (by_arrival _ q)
  role_way F o (is_heard q l h) = sym (by_arrival _ q)
  role_way F o (is_passed q l) = sym (by_arrival _ q)
  role_way F o (is_cleared q c) = obeyed_right F ∙ sym (by_command _ q)
  role_way F o (is_obeyed q c) = obeyed_right F ∙ sym (by_command _ q)
  role_way F o (is_released q h) = sym (by_ready _ q ∙ ready_66 r d _ (and_left _ _ h))
  role_way F o (is_assigned q h a) = sym (by_ready _ q ∙ ready_assigns r d _ a)
  role_way F o (is_send_asked q x) =
      sent_right o (waiting_sent w.state w.toloop) (by_ready _ q.readying ∙ ready_sends r d _ 96 (omega arith) refl x)
  role_way F o (is_told q x y) = sym (by_ready _ q.readying ∙ ready_tells r d _ y)
  role_way F o (is_finishing q x y z) = sym (by_ready _ q.readying ∙ ready_66 r d _ (and_left _ _ z))
  role_way F o (is_id_asked q x y z u) = sent_right o (id_sent w.state 0) (by_ready _ q.readying ∙ ready_sends r d _ 98 (omega arith) refl u)
  role_way F o (is_accessory q x y z u v) =
      sent_right o (sends_sent w.state _ _ 10 refl (omega arith)) (by_ready _ q.readying ∙ ready_sends r d _ 99 (omega arith) refl v)
  role_way F o (is_ready q x y z u v) = sym (by_ready _ q.readying ∙ ready_only r d _ false q.noaddress x y u v)
  role_way F o (is_identified q) = sym (by_identify _ q)

-- ---- every call

abbrev Goes : Call → World → Did → Type 0
Goes c w d =
    restarts c d.said ≡ false →
    d.world.state.talker.role ≡
    on_frame (λ f. cond (taken d.said) (by_frame f w.state.talker.role d.said) w.state.talker.role) w.state.talker.role c

-- no call of the bus changes it
same_role : (s t : State) → t.talker ≡ s.talker → (b : Bool) → (cond b t s).talker.role ≡ s.talker.role
same_role s t e b = by_cond (λ (x : State). x.talker.role ≡ s.talker.role) b t s (λ _. ap (λ (x : Talker). x.role) e) (λ _. refl)

fetch_role : (s : State) (cells : List ℕ) (o : Outcome) → Fetching s cells o → o.state.talker.role ≡ s.talker.role
unfolding bus-side.status_given
fetch_role s cells o is_none = refl
fetch_role s cells o (is_given h) = refl
fetch_role s cells o is_status = refl

done_goes : (c : Call) (w : World) → first_refusal (checks c w) ≡ 0 → Goes c w (not_refused c w)
unfolding not_refused outcome restarts said bus-side.bus_command bus-side.bus_byte bus-side.bus_clear bus-side.bus_lines
done_goes (create a) w e q = absurd (true≢false q)
done_goes (show side) w e q = refl
done_goes (on reset) w e q = absurd (true≢false q)
done_goes (on (loop_frame f)) w e q = role_way w f (fitting (loop_frame f) w e).0 _ (way w.state w.toloop f)
done_goes (on (bus_command c)) w e q = same_role w.state _ refl (clears w.state.bus c)
done_goes (on (bus_byte b mark)) w e q = same_role w.state _ refl w.state.bus.role.listener
done_goes (on bus_fetch) w e q = fetch_role w.state w.tobus _ (fetching w.state w.tobus)
done_goes (on bus_clear) w e q = refl
done_goes (on bus_lines) w e q = refl

-- a refusal changes nothing
refused_goes : (c : Call) (w : World) (n : ℕ) → Goes c w (record { said = refused n; world = w })
refused_goes (create a) w n q = refl
refused_goes (show side) w n q = refl
refused_goes (on reset) w n q = refl
refused_goes (on (loop_frame f)) w n q = refl
refused_goes (on (bus_command c)) w n q = refl
refused_goes (on (bus_byte b mark)) w n q = refl
refused_goes (on bus_fetch) w n q = refl
refused_goes (on bus_clear) w n q = refl
refused_goes (on bus_lines) w n q = refl

pub loop_role_goes : Obeys (mailbox step) LoopRoleGoes
loop_role_goes c w _ = by_refusal (Goes c w) c w (done_goes c w) (λ _. refused_goes c w _)
