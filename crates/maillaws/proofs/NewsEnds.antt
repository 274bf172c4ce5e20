-- The news ends when a status byte that showed it is back unchanged and nothing came since. Assumes nothing.
use Prim.Native.Nat.{ℕ, ◌%◌}
use native.Mathlib.Omega.{arith}
use mathlib.Core.Path.{◌≡◌, refl, sym, ap, subst, ◌∙◌}
use mathlib.Core.Bool.{Bool, true, false, cond, ◌&&◌, ◌||◌, not, false≢true, true≢false}
use mathlib.Core.List.{List, [], ◌∷◌}
use lib.Dec.{eqb, leb}
use borrow.Author.Tests.{eqb-true}
use Rattle.branches.proofs.Branches.{by_cond, and_left, and_right}
use Rattle.machine.specs.Course.{Without}
use Rattle.machine.specs.Machine.{Obeys, seen, course, finally}
use Rattle.machine.proofs.Course.{neither, first_not}
use Rattle.frame.specs.Frame.{control_of, data_of, made, is_data, same_apart}
use Rattle.role.specs.Role.{is_active}
use Rattle.talker.specs.UnderWay.{talking}
use Rattle.store.specs.Ring.{put_ring}
use Rattle.answers.specs.Refusals.{first_refusal}
use Rattle.answers.specs.Answers.{said}
use Rattle.news.specs.News.{news_byte, come}
use Rattle.way.specs.Way.{empty_way, left_in}
use Rattle.bus.specs.Bus as bus
use Rattle.mailstate.specs.declared.State.{State}
use Rattle.mailstate.specs.Outcome.{Outcome}
use Rattle.mailstate.specs.State.{with_to_loop, with_bus}
use Rattle.mailstate.proofs.Fits.{toloop_fits}
use Rattle.mailloop.specs.Sends.{send_status, ended}
use Rattle.mailloop.specs.Messages.{passed, released, identify, frame_taken}
use Rattle.mailbox.specs.BusSide as bus-side
use Rattle.mailbox.specs.Calls.{reset, loop_frame, bus_command, bus_byte, bus_fetch, bus_clear, bus_lines, Call, create, show, on, World, Did}
use Rattle.mailbox.specs.Calls.{checks, outcome, tobus_after, toloop_after, not_refused, step}
use Rattle.maillaws.specs.Mailboxes.{mailbox}
use Rattle.maillaws.specs.Sights.{to_loop, waits, any, taken, data_byte, bus_listens, cell_for, left, restarts, comes, told}
use Rattle.maillaws.specs.StateFits.{Fits}
use Rattle.maillaws.specs.NewsTold.{shows_news, ends_way, gives_back, NewsEnds}
use Rattle.maillaws.proofs.Refusal.{by_refusal, fitting}
use Rattle.maillaws.proofs.Fetching.{Fetching, fetching, is_none, is_given, is_status}
use Rattle.maillaws.proofs.Requests.{any_waits}
use Rattle.maillaws.proofs.Replied.{loop_taken}
use Rattle.maillaws.proofs.StatusSent.{status_frame, status_byte}
use Rattle.maillaws.proofs.NewsRuns.{only, same_first}
use Rattle.maillaws.proofs.FrameWays.{Way, way, is_next, is_next_id, is_back, is_last, is_damaged, is_held, is_heard, is_passed, is_cleared, is_obeyed}
use Rattle.maillaws.proofs.FrameWays.{is_released, is_assigned, is_send_asked, is_told, is_finishing, is_id_asked, is_accessory, is_ready, is_identified}

-- the status byte g is under way, and nothing came since it was sent
pub record Sent (g : ℕ) (s : State) : Type 0 where
  pub phase : s.talker.role.phase ≡ 3
  pub under : s.talker.under.frame ≡ made 0 g
  pub again : s.toloop.news.again ≡ false

-- ---- where it is sent

sent_frame : (w : World) (g : ℕ) → data_byte (said (frame_taken w.state w.toloop (made 5 97)).answer) ≡ g ∷ [] → Sent g (frame_taken w.state w.toloop (made 5 97)).state
unfolding said send_status talking
sent_frame w g e =
    subst (λ (o : Outcome). Sent g o.state) (sym (status_frame w.state w.toloop))
    (go (eqb w.state.talker.role.phase 1) (ap (λ (o : Outcome). data_byte (said o.answer)) (sym (status_frame w.state w.toloop)) ∙ e))
  where
    go : (t : Bool) → data_byte (said (cond t (send_status w.state) (passed w.state (made 5 97))).answer) ≡ g ∷ [] →
        Sent g (cond t (send_status w.state) (passed w.state (made 5 97))).state
    go true h = record { phase = refl; under = ap (made 0) (same_first (news_byte w.state.toloop.news) g (sym (status_byte w.state) ∙ h)); again = refl }
    go false h = absurd (false≢true (ap any h))

sent_at : (t : Call) (w : World) (g : ℕ) → told to_loop t w (step t w).said ≡ g ∷ [] → Sent g (step t w).world.state
unfolding told not_refused outcome
sent_at (on (loop_frame f)) w g q =
    by_refusal (λ (x : Did). cond (eqb f (made 5 97)) (data_byte x.said) [] ≡ g ∷ [] → Sent g x.world.state) (on (loop_frame f)) w
    (λ n e. let o = only (eqb f (made 5 97)) _ g e in asked (eqb-true f (made 5 97) o.0) o.1)
    (λ n e. absurd (false≢true (ap any (only (eqb f (made 5 97)) [] g e).1))) q
  where
    asked : f ≡ made 5 97 → data_byte (not_refused (on (loop_frame f)) w).said ≡ g ∷ [] → Sent g (not_refused (on (loop_frame f)) w).world.state
    asked z h =
        subst (λ (x : ℕ). Sent g (frame_taken w.state w.toloop x).state) (sym z)
        (sent_frame w g (ap (λ (x : ℕ). data_byte (said (frame_taken w.state w.toloop x).answer)) (sym z) ∙ h))
sent_at (create m) w g e = absurd (false≢true (ap any e))
sent_at (show side) w g e = absurd (false≢true (ap any e))
sent_at (on reset) w g e = absurd (false≢true (ap any e))
sent_at (on (bus_command c)) w g e = absurd (false≢true (ap any e))
sent_at (on (bus_byte b mark)) w g e = absurd (false≢true (ap any e))
sent_at (on bus_fetch) w g e = absurd (false≢true (ap any e))
sent_at (on bus_clear) w g e = absurd (false≢true (ap any e))
sent_at (on bus_lines) w g e = absurd (false≢true (ap any e))

-- ---- while it is under way

module _ (w : World) (f g : ℕ) (q : Sent g w.state) where
  -- an active talker with status is asked for nothing
  unasked : {X : Type 0} (n k : ℕ) → (k ≡ 3 → ⊥) → (eqb (data_of f) n && eqb w.state.talker.role.phase k) ≡ true → X
  unasked n k h e = absurd (h (sym (eqb-true w.state.talker.role.phase k (and_right (eqb (data_of f) n) _ e)) ∙ q.phase))

  frame_under : (o : Outcome) → Way w.state w.toloop f o → (is_data f || eqb (control_of f) 4) ≡ false → Sent g o.state
  unfolding released identify
  frame_under o (is_next r z) n = absurd (true≢false (sym r.back.isdata ∙ (neither _ _ n).0))
  frame_under o (is_next_id r z) n = absurd (true≢false (sym r.back.isdata ∙ (neither _ _ n).0))
  frame_under o (is_back r m k) n = absurd (true≢false (sym r.isdata ∙ (neither _ _ n).0))
  frame_under o (is_last r m k x) n = absurd (true≢false (sym r.isdata ∙ (neither _ _ n).0))
  frame_under o (is_damaged r m) n = absurd (true≢false (sym r.isdata ∙ (neither _ _ n).0))
  frame_under o (is_held r t h) n = absurd (true≢false (sym r.isdata ∙ (neither _ _ n).0))
  frame_under o (is_heard r t h) n = absurd (true≢false (sym r.isdata ∙ (neither _ _ n).0))
  frame_under o (is_passed r t) n = absurd (true≢false (sym r.isdata ∙ (neither _ _ n).0))
  frame_under o (is_cleared r c) n = absurd (true≢false (sym r.four ∙ (neither (is_data f) _ n).1))
  frame_under o (is_obeyed r c) n = absurd (true≢false (sym r.four ∙ (neither (is_data f) _ n).1))
  frame_under o (is_released r h) n = record { phase = q.phase; under = q.under; again = q.again }
  frame_under o (is_assigned r h a) n = record { phase = q.phase; under = q.under; again = q.again }
  frame_under o (is_send_asked r x) n = unasked 96 1 (λ e. omega arith) x
  frame_under o (is_told r x y) n = unasked 97 1 (λ e. omega arith) y
  frame_under o (is_finishing r x y z) n = unasked 66 2 (λ e. omega arith) z
  frame_under o (is_id_asked r x y z u) n = unasked 98 1 (λ e. omega arith) u
  frame_under o (is_accessory r x y z u v) n = unasked 99 1 (λ e. omega arith) v
  frame_under o (is_ready r x y z u v) n = q
  frame_under o (is_identified r) n = q

  -- it comes back, and the news it showed is over
  over : (a : Bool) → eqb (g % 2) 1 ≡ true → (a && not (eqb (data_of w.state.talker.under.frame % 2) 1 && not w.state.toloop.news.again)) ≡ false
  over a o =
      let d : data_of w.state.talker.under.frame % 2 ≡ g % 2 = ap (λ (x : ℕ). x % 256 % 2) q.under ∙ omega arith in
      (λ i. a && not ((ap (λ (x : ℕ). eqb x 1) d ∙ o) i && not (q.again i))) ∙ and_off a
    where
      and_off : (t : Bool) → (t && false) ≡ false
      and_off true = refl
      and_off false = refl

  three : eqb w.state.talker.role.phase 3 ≡ true
  three = ap (λ (x : ℕ). eqb x 3) q.phase

  back_over : (o : Outcome) → Way w.state w.toloop f o → is_data f ≡ true → same_apart f (made 0 g) ≡ true → eqb (g % 2) 1 ≡ true → o.state.toloop.news.available ≡ false
  unfolding ended
  back_over o (is_next r z) d m h = absurd (true≢false (sym three ∙ r.notstatus))
  back_over o (is_next_id r z) d m h = absurd (true≢false (sym three ∙ r.notstatus))
  back_over o (is_back r u k) d m h = over w.state.toloop.news.available h
  back_over o (is_last r u k x) d m h = absurd (true≢false (sym three ∙ k))
  back_over o (is_damaged r u) d m h = absurd (true≢false (sym m ∙ ap (same_apart f) (sym q.under) ∙ u))
  back_over o (is_held r t x) d m h = idle r.idle
    where
      idle : {X : Type 0} → is_active w.state.talker.role ≡ false → X
      idle e = absurd (true≢false (sym (ap (leb 2) q.phase) ∙ e))
  back_over o (is_heard r t x) d m h = absurd (true≢false (sym (ap (leb 2) q.phase) ∙ r.idle))
  back_over o (is_passed r t) d m h = absurd (true≢false (sym (ap (leb 2) q.phase) ∙ r.idle))
  back_over o (is_cleared r c) d m h = absurd (true≢false (sym d ∙ r.isdata))
  back_over o (is_obeyed r c) d m h = absurd (true≢false (sym d ∙ r.isdata))
  back_over o (is_released r x) d m h = absurd (true≢false (sym d ∙ r.isdata))
  back_over o (is_assigned r x a) d m h = absurd (true≢false (sym d ∙ r.isdata))
  back_over o (is_send_asked r x) d m h = absurd (true≢false (sym d ∙ r.readying.isdata))
  back_over o (is_told r x y) d m h = absurd (true≢false (sym d ∙ r.readying.isdata))
  back_over o (is_finishing r x y z) d m h = absurd (true≢false (sym d ∙ r.readying.isdata))
  back_over o (is_id_asked r x y z u) d m h = absurd (true≢false (sym d ∙ r.readying.isdata))
  back_over o (is_accessory r x y z u v) d m h = absurd (true≢false (sym d ∙ r.readying.isdata))
  back_over o (is_ready r x y z u v) d m h = absurd (true≢false (sym d ∙ r.readying.isdata))
  back_over o (is_identified r) d m h = absurd (true≢false (sym d ∙ r.isdata))

-- a byte that is left beside others
beside : (g : ℕ) (w : World) (b : ℕ) (mark : Bool) → Fits w → Sent g w.state → (any (cond (bus_listens w) (cell_for b mark ∷ []) []) && not (any (waits to_loop w))) ≡ false →
    Sent g (cond (bus_listens w) (with_to_loop w.state (left_in w.state.toloop)) w.state)
unfolding left_in
beside g w b mark F q = go (bus_listens w) (eqb w.state.toloop.ring.len 0) (any_waits w.toloop w.state.toloop.ring (toloop_fits w.state w.tobus w.toloop F))
  where
    go : (l z : Bool) → any (waits to_loop w) ≡ not z → (any (cond l (cell_for b mark ∷ []) []) && not (any (waits to_loop w))) ≡ false →
        Sent g (cond l (with_to_loop w.state (record { ring = put_ring w.state.toloop.ring; news = cond z come w.state.toloop.news })) w.state)
    go false z e n = q
    go true false e n = record { phase = q.phase; under = q.under; again = q.again }
    go true true e n = absurd (true≢false (sym (ap not e) ∙ n))

done_under : (g : ℕ) (c : Call) (w : World) → Sent g w.state → first_refusal (checks c w) ≡ 0 → comes to_loop c w (not_refused c w).said ≡ false →
    ends_way c w (not_refused c w).said ≡ false → Sent g (not_refused c w).world.state
unfolding not_refused outcome tobus_after toloop_after bus-side.bus_clear bus-side.bus_lines bus-side.bus_byte bus-side.bus_command bus-side.status_given empty_way said left ends_way restarts
done_under g (create a) w q e n u = absurd (true≢false u)
done_under g (show side) w q e n u = q
done_under g (on reset) w q e n u = absurd (true≢false u)
done_under g (on (loop_frame f)) w q e n u = frame_under w f g q (frame_taken w.state w.toloop f) (way w.state w.toloop f) (ended_not _ u)
  where
    ended_not : (t : Bool) → (taken (said (frame_taken w.state w.toloop f).answer) && t) ≡ false → t ≡ false
    ended_not t h = (λ i. not (sym (loop_taken f w e) i) && t) ∙ h
done_under g (on (bus_command c)) w q e n u =
    by_cond (λ (t : State). Sent g (with_bus t (bus.commanded w.state.bus c))) (bus.clears w.state.bus c) _ _
    (λ _. record { phase = q.phase; under = q.under; again = refl }) (λ _. record { phase = q.phase; under = q.under; again = q.again })
done_under g (on (bus_byte b mark)) w q e n u = beside g w b mark (fitting (bus_byte b mark) w e).0 q n
done_under g (on bus_fetch) w q e n u = fetch_under (bus-side.bus_fetch w.state w.tobus) (fetching w.state w.tobus)
  where
    fetch_under : (o : Outcome) → Fetching w.state w.tobus o → Sent g o.state
    fetch_under o is_none = q
    fetch_under o (is_given z) = record { phase = q.phase; under = q.under; again = q.again }
    fetch_under o is_status = record { phase = q.phase; under = q.under; again = q.again }
done_under g (on bus_clear) w q e n u = record { phase = q.phase; under = q.under; again = q.again }
done_under g (on bus_lines) w q e n u = q

call_under : (g : ℕ) (c : Call) (w : World) → Sent g w.state → comes to_loop c w (step c w).said ≡ false → ends_way c w (step c w).said ≡ false → Sent g (step c w).world.state
call_under g c w q =
    by_refusal (λ (x : Did). comes to_loop c w x.said ≡ false → ends_way c w x.said ≡ false → Sent g x.world.state) c w (done_under g c w q) (λ _ _ _. q)

run_under : (g : ℕ) (cs : List Call) (w : World) → Sent g w.state → Without (comes to_loop) (course (mailbox step) cs w) → Without ends_way (course (mailbox step) cs w) →
    Sent g (finally (mailbox step) cs w).state
unfolding course finally
run_under g [] w q n u = q
run_under g (c ∷ cs) w q n u =
    let m = first_not (comes to_loop) (seen (mailbox step) c w) (course (mailbox step) cs (step c w).world) n in
    let v = first_not ends_way (seen (mailbox step) c w) (course (mailbox step) cs (step c w).world) u in
    run_under g cs (step c w).world (call_under g c w q m.0 v.0) m.1 v.1

-- ---- when it comes back

back_at : (g : ℕ) (t : Call) (w : World) → Sent g w.state → shows_news g ≡ true → gives_back g t w (step t w).said ≡ true → (step t w).world.state.toloop.news.available ≡ false
unfolding gives_back not_refused outcome
back_at g (on (loop_frame f)) w q h b =
    by_refusal (λ (x : Did). (taken x.said && (is_data f && same_apart f (made 0 g))) ≡ true → x.world.state.toloop.news.available ≡ false) (on (loop_frame f)) w
    (λ n e.
    let z = and_right (taken (said (frame_taken w.state w.toloop f).answer)) _ e in
    back_over w f g q (frame_taken w.state w.toloop f) (way w.state w.toloop f) (and_left _ _ z) (and_right (is_data f) _ z) h)
    (λ n e. absurd (false≢true e)) b
back_at g (create a) w q h b = absurd (false≢true b)
back_at g (show side) w q h b = absurd (false≢true b)
back_at g (on reset) w q h b = absurd (false≢true b)
back_at g (on (bus_command c)) w q h b = absurd (false≢true b)
back_at g (on (bus_byte y mark)) w q h b = absurd (false≢true b)
back_at g (on bus_fetch) w q h b = absurd (false≢true b)
back_at g (on bus_clear) w q h b = absurd (false≢true b)
back_at g (on bus_lines) w q h b = absurd (false≢true b)

pub news_ends : Obeys (mailbox step) NewsEnds
news_ends c cs t w h j k g e o n u b =
    back_at g t (finally (mailbox step) cs (step c w).world) (run_under g cs (step c w).world (sent_at c w g e) n u) o b
