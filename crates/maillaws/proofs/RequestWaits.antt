-- A request shows only while something waits, in every run since the way was cleared. Assumes nothing.
use Prim.Native.Nat.{ℕ, ◌+◌, ◌*◌, ◌-◌, ◌/◌, ◌%◌, ◌<◌}
use native.Mathlib.Omega.{arith}
use mathlib.Core.Path.{◌≡◌, refl, sym, ap, subst, ◌∙◌}
use mathlib.Core.Bool.{Bool, true, false, cond, ◌&&◌, not, false≢true, true≢false}
use mathlib.Core.List.{List, [], ◌∷◌}
use lib.Dec.{eqb, leb}
use borrow.Author.Tests.{eqb-true, eqb-false, ne_eqb, leb-true}
use Rattle.branches.proofs.Branches.{by_cond, and_left, and_right}
use Rattle.machine.specs.Machine.{Obeys, finally}
use Rattle.frame.specs.Frame.{control_of, data_of, made, has_service, with_service}
use Rattle.store.specs.declared.Ring.{Ring}
use lib.ListN.{get_or}
use Rattle.store.specs.Ring.{Fit, held, drop_ring}
use Rattle.store.proofs.Laws.{ring_len, drop_len}
use Rattle.news.specs.declared.News.{News}
use Rattle.answers.specs.Answers.{Said, done, none, byte, frame, refused, part, cell, lines, said}
use Rattle.bus.specs.Bus.{poll_bits, response_of}
use Rattle.polls.specs.Polls.{joined}
use Rattle.mailstate.specs.declared.State.{State}
use Rattle.mailstate.specs.Outcome.{Outcome}
use Rattle.mailstate.proofs.Fits.{loop_line, bus_line, tobus_fits, toloop_fits}
use Rattle.mailloop.specs.Sends.{serviced, frame_of, id_byte, ended, sends, send_waiting, send_id}
use Rattle.mailloop.specs.Messages.{identify, frame_taken}
use Rattle.mailbox.specs.BusSide as bus-side
use Rattle.mailbox.specs.Calls.{reset, loop_frame, bus_command, bus_byte, bus_fetch, bus_clear, bus_lines, Call, create, show, on, World, Did, outcome, not_refused, step}
use Rattle.maillaws.specs.Mailboxes.{mailbox}
use Rattle.maillaws.specs.Sights.{Direction, to_bus, to_loop, store_of, ring_of, news_of, of_frame_said}
use Rattle.maillaws.specs.Replies.{can_answer}
use Rattle.maillaws.specs.StateFits.{Fits}
use Rattle.maillaws.specs.Requesting.{carries_service, lines_request, shows_request, RequestWaits}
use Rattle.maillaws.proofs.Refusal.{by_refusal, fitting}
use Rattle.maillaws.proofs.Small.{id_small, bits_small, joined_small}
use Rattle.maillaws.proofs.Replied.{answers_so}
use Rattle.maillaws.proofs.FrameWays.{Way, way, is_next, is_next_id, is_back, is_last, is_damaged, is_held, is_heard, is_passed, is_cleared, is_obeyed}
use Rattle.maillaws.proofs.FrameWays.{is_released, is_assigned, is_send_asked, is_told, is_finishing, is_id_asked, is_accessory, is_ready, is_identified}
use Rattle.maillaws.proofs.Moves.{Sight, Move, is_still, is_put, is_fetched, is_emptied, is_asked, is_returned}
use Rattle.maillaws.proofs.EveryMove.{moved}
use Rattle.maillaws.proofs.Ways.{clear_moved}
use Rattle.maillaws.proofs.Requests.{any_waits}

-- ---- a request stands only beside something that waits

abbrev Backed : Ring → News → Type 0
Backed r n = n.request ≡ true → r.len ≡ 0 → ⊥

backed : (d : Direction) (w : World) {t : Bool} (x : Sight) (r : Ring) (n : News) (s : List ℕ) → Move d w t x r n s → Backed (ring_of d w) (news_of d w) → Backed r n
backed d w x r n s is_still b = b
backed d w x r n s (is_put y F h) b = λ e z. let q : (ring_of d w).len + 1 ≡ 0 = sym (ring_len (ring_of d w) h) ∙ z in omega arith
backed d w x r n s (is_fetched F h) b =
    by_cond (λ (m : News). Backed (drop_ring (ring_of d w) 1) m) (eqb (ring_of d w).len 1) _ _ (λ _ e. absurd (false≢true e))
    (λ k e z.
    let q : (ring_of d w).len - 1 ≡ 0 = sym (drop_len (ring_of d w) 1) ∙ z in
    let one : (ring_of d w).len ≡ 1 → ⊥ = eqb-false (ring_of d w).len 1 k in
    h (omega arith))
backed d w x r n s (is_emptied cap) b = λ e. absurd (false≢true e)
backed d w x r n s (is_asked g m q _) b = λ e. absurd (false≢true (sym q ∙ e))
backed d w x r n s (is_returned m q _ _) b = λ e z. b (sym q ∙ e) z

run_backed : (d : Direction) (cs : List Call) (w : World) → Backed (ring_of d w) (news_of d w) →
    Backed (ring_of d (finally (mailbox step) cs w)) (news_of d (finally (mailbox step) cs w))
unfolding finally
run_backed d [] w b = b
run_backed d (c ∷ cs) w b = run_backed d cs (step c w).world (backed d w _ _ _ _ (moved d c w) b)

-- ---- what is seen of a request

-- on the bus
by_lines : (P : Said → Type 0) → ((n : ℕ) → leb 256 n ≡ true → P (lines n)) → (a : Said) → lines_request a ≡ true → P a
by_lines P p (lines n) e = p n e
by_lines P p done e = absurd (false≢true e)
by_lines P p none e = absurd (false≢true e)
by_lines P p (byte b) e = absurd (false≢true e)
by_lines P p (frame k d) e = absurd (false≢true e)
by_lines P p (refused n) e = absurd (false≢true e)
by_lines P p (part xs) e = absurd (false≢true e)
by_lines P p (cell n) e = absurd (false≢true e)

lines_asked : (c : Call) (w : World) → lines_request (step c w).said ≡ true → (n : ℕ) → can_answer c (lines n) ≡ true → c ≡ on bus_lines
lines_asked (on bus_lines) w e n h = refl
lines_asked (create a) w e n h = absurd (false≢true h)
lines_asked (show side) w e n h = absurd (false≢true h)
lines_asked (on reset) w e n h = absurd (false≢true h)
lines_asked (on (loop_frame f)) w e n h = absurd (false≢true h)
lines_asked (on (bus_command c)) w e n h = absurd (false≢true h)
lines_asked (on (bus_byte b mark)) w e n h = absurd (false≢true h)
lines_asked (on bus_fetch) w e n h = absurd (false≢true h)
lines_asked (on bus_clear) w e n h = absurd (false≢true h)

-- the lines that the bus is shown
lines_request_lem : (w : World) → lines_request (step (on bus_lines) w).said ≡ true → (w.state.tobus.news.request ≡ true) × Fits w
unfolding not_refused outcome bus-side.bus_lines poll_bits said
lines_request_lem w =
    by_refusal (λ (x : Did). lines_request x.said ≡ true → (w.state.tobus.news.request ≡ true) × Fits w) (on bus_lines) w
    (λ e h. let F = (fitting bus_lines w e).0 in (shown F h, F)) (λ _ h. absurd (false≢true h))
  where
    small : Fits w → poll_bits w.state.bus w.state.tobus.news.request < 256
    small F = bits_small (response_of w.state.bus) w.state.tobus.news.request (bus_line w.state w.tobus w.toloop F)

    go : (t : Bool) (b : ℕ) → b < 256 → leb 256 (bus-side.cell_with b t) ≡ true → t ≡ true
    go true b l h = refl
    go false b l h = absurd (omega (arith, leb-true 256 b h))

    shown : Fits w → lines_request (not_refused (on bus_lines) w).said ≡ true → w.state.tobus.news.request ≡ true
    shown F h = go w.state.tobus.news.request (poll_bits w.state.bus w.state.tobus.news.request) (small F) h

bus_shown : (c : Call) (w : World) → lines_request (step c w).said ≡ true → (w.state.tobus.news.request ≡ true) × Fits w
bus_shown c w e =
    let asked : c ≡ on bus_lines = by_lines (λ (a : Said). can_answer c a ≡ true → c ≡ on bus_lines) (λ n _ h. lines_asked c w e n h) (step c w).said e (answers_so c w tt) in
    lines_request_lem w (subst (λ (x : Call). lines_request (step x w).said ≡ true) asked e)

-- on the loop: a service bit that the frame taken did not have
abbrev out_has : Said → Bool
out_has = of_frame_said (λ k d. carries_service k && eqb (k % 2) 1) false

module _ (w : World) (F : Fits w) (f : ℕ) where
  abbrev s : State
  s = w.state

  -- a frame that is given the bit of a request, and has none of its own
  serviced_out : (g : ℕ) → eqb (control_of g % 2) 1 ≡ false → out_has (frame (control_of (serviced w.state g)) (data_of (serviced w.state g))) ≡ true → w.state.toloop.news.request ≡ true
  unfolding serviced
  serviced_out g e = go w.state.toloop.news.request
    where
      go : (t : Bool) → out_has (frame (control_of (cond t (with_service g) g)) (data_of (cond t (with_service g) g))) ≡ true → t ≡ true
      go true h = refl
      go false h = absurd (false≢true (sym e ∙ and_right (carries_service (control_of g)) _ h))

  -- frames that we send have none of their own
  sent_out : (k b : ℕ) → eqb (k % 2) 1 ≡ false → b < 256 → out_has (frame (control_of (serviced w.state (made k b))) (data_of (serviced w.state (made k b)))) ≡ true →
      w.state.toloop.news.request ≡ true
  sent_out k b e l = serviced_out (made k b) (let p : (k * 256 + b) / 256 ≡ k = omega arith in rw p e)

  cell_even : (c : ℕ) → eqb (control_of (frame_of c) % 2) 1 ≡ false
  cell_even c = by_cond (λ (k : ℕ). eqb (made k (c % 256) / 256 % 2) 1 ≡ false) (eqb (c / 256 % 2) 1) _ _ (λ _. even 2 refl) (λ _. even 0 refl)
    where
      even : (k : ℕ) → eqb (k % 2) 1 ≡ false → eqb ((k * 256 + c % 256) / 256 % 2) 1 ≡ false
      even k e = let p : (k * 256 + c % 256) / 256 ≡ k = omega arith in rw p e

  abbrev Shown : Outcome → Type 0
  Shown o = out_has (said o.answer) ≡ true → w.state.toloop.news.request ≡ true

  send_shown : Shown (send_waiting w.state w.toloop)
  unfolding send_waiting ended sends said
  send_shown = by_cond Shown (eqb w.state.toloop.ring.len 0) _ _ (λ _ h. absurd (false≢true h))
      (λ _ h. serviced_out (frame_of first) (cell_even first) h)
    where
      first : ℕ
      first = get_or (held w.toloop w.state.toloop.ring) 0 0

  id_shown : (n : ℕ) → Shown (send_id w.state n)
  unfolding send_id ended sends said
  id_shown n = by_cond Shown (leb 10 n) _ _ (λ _ h. absurd (false≢true h)) (λ _ h. sent_out 0 (id_byte n) refl (id_small n) h)

  -- a frame that carries no service bit shows none
  uncarried : {X : Type 0} → (k : ℕ) → eqb (control_of f) k ≡ true → carries_service k ≡ false → carries_service (control_of f) ≡ true → X
  uncarried k e h q = absurd (true≢false (sym q ∙ ap carries_service (eqb-true (control_of f) k e) ∙ h))

  shown_way : (o : Outcome) → Way w.state w.toloop f o → carries_service (control_of f) ≡ true → has_service f ≡ false → Shown o
  unfolding ended identify said
  shown_way o (is_next r z) q p = send_shown
  shown_way o (is_next_id r z) q p = id_shown w.state.source
  shown_way o (is_back r m k) q p = λ h. absurd (false≢true h)
  shown_way o (is_last r m k e) q p = λ h. absurd (false≢true h)
  shown_way o (is_damaged r m) q p = λ h. absurd (false≢true h)
  shown_way o (is_held r l h) q p = λ h. absurd (false≢true h)
  shown_way o (is_heard r l h) q p = serviced_out f p
  shown_way o (is_passed r l) q p = serviced_out f p
  shown_way o (is_cleared r c) q p = uncarried 4 r.four refl q
  shown_way o (is_obeyed r c) q p = uncarried 4 r.four refl q
  shown_way o (is_released r h) q p = uncarried 5 r.five refl q
  shown_way o (is_assigned r h a) q p = uncarried 5 r.five refl q
  shown_way o (is_send_asked r x) q p = uncarried 5 r.readying.five refl q
  shown_way o (is_told r x y) q p = uncarried 5 r.readying.five refl q
  shown_way o (is_finishing r x y z) q p = uncarried 5 r.readying.five refl q
  shown_way o (is_id_asked r x y z u) q p = uncarried 5 r.readying.five refl q
  shown_way o (is_accessory r x y z u v) q p = uncarried 5 r.readying.five refl q
  shown_way o (is_ready r x y z u v) q p = uncarried 5 r.readying.five refl q
  shown_way o (is_identified r) q p =
      sent_out (control_of f) (joined w.state.response w.state.toloop.news.request (data_of f)) p
      (joined_small w.state.response w.state.toloop.news.request (data_of f) (loop_line w.state w.tobus w.toloop F) (omega arith))

loop_shown : (f : ℕ) (w : World) → shows_request to_loop (on (loop_frame f)) w (step (on (loop_frame f)) w).said ≡ true → (w.state.toloop.news.request ≡ true) × Fits w
unfolding shows_request not_refused outcome
loop_shown f w =
    by_refusal (λ (x : Did). ((carries_service (control_of f) && not (has_service f)) && out_has x.said) ≡ true → (w.state.toloop.news.request ≡ true) × Fits w) (on (loop_frame f)) w
    (λ e h. let F = (fitting (loop_frame f) w e).0 in (seen F h, F))
    (λ _ h. absurd (false≢true (and_right (carries_service (control_of f) && not (has_service f)) false h)))
  where
    off : (t : Bool) → not t ≡ true → t ≡ false
    off true h = sym h
    off false h = refl

    seen : Fits w → ((carries_service (control_of f) && not (has_service f)) && out_has (not_refused (on (loop_frame f)) w).said) ≡ true → w.state.toloop.news.request ≡ true
    seen F h =
        let q = and_left (carries_service (control_of f) && not (has_service f)) _ h in
        shown_way w F f (frame_taken w.state w.toloop f) (way w.state w.toloop f) (and_left _ _ q) (off (has_service f) (and_right (carries_service (control_of f)) _ q))
        (and_right (carries_service (control_of f) && not (has_service f)) _ h)

shown : (d : Direction) (c : Call) (w : World) → shows_request d c w (step c w).said ≡ true → ((news_of d w).request ≡ true) × Fits w
unfolding shows_request
shown to_bus c w e = bus_shown c w e
shown to_loop (on (loop_frame f)) w e = loop_shown f w e
shown to_loop (create a) w e = absurd (false≢true e)
shown to_loop (show side) w e = absurd (false≢true e)
shown to_loop (on reset) w e = absurd (false≢true e)
shown to_loop (on (bus_command c)) w e = absurd (false≢true e)
shown to_loop (on (bus_byte b mark)) w e = absurd (false≢true e)
shown to_loop (on bus_fetch) w e = absurd (false≢true e)
shown to_loop (on bus_clear) w e = absurd (false≢true e)
shown to_loop (on bus_lines) w e = absurd (false≢true e)

-- ---- the law

way_fit : (d : Direction) (w : World) → Fits w → Fit (store_of d w) (ring_of d w)
way_fit to_bus w F = tobus_fits w.state w.tobus w.toloop F
way_fit to_loop w F = toloop_fits w.state w.tobus w.toloop F

pub request_waits : (d : Direction) → Obeys (mailbox step) (RequestWaits d)
request_waits d c cs t w h j k e q =
    let v : World = finally (mailbox step) cs (step c w).world in
    let x = shown d t v q in
    let b : Backed (ring_of d v) (news_of d v) = run_backed d cs (step c w).world (λ r. absurd (false≢true (sym (clear_moved d c w e).request ∙ r))) in
    any_waits (store_of d v) (ring_of d v) (way_fit d v x.1) ∙ ap not (ne_eqb (ring_of d v).len 0 (b x.0))
