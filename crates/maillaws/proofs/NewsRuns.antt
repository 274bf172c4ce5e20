-- The news over runs: it stays until a status byte that showed it is back unchanged, and ends then. Assumes nothing.
use Prim.Native.Nat.{ℕ}
use mathlib.Core.Path.{◌≡◌, refl, sym, ap, subst, ◌∙◌}
use mathlib.Core.Bool.{Bool, true, false, cond, not, false≢true, true≢false}
use mathlib.Core.List.{List, [], ◌∷◌, map}
use lib.Dec.{eqb}
use borrow.Author.Tests.{eqb-true}
use Rattle.branches.proofs.Branches.{by_cond, and_left, and_right}
use Rattle.machine.specs.Course.{Each}
use Rattle.machine.specs.Machine.{Obeys, course, finally}
use Rattle.machine.specs.Rounds.{newest, under_way, is_back, comes_back}
use Rattle.machine.proofs.Course.{neither}
use Rattle.frame.specs.Frame.{made}
use Rattle.store.specs.Ring.{held, put_ring}
use Rattle.store.proofs.Laws.{held_empty}
use Rattle.answers.specs.Refusals.{first_refusal}
use Rattle.answers.specs.Answers.{refused, said}
use Rattle.news.specs.declared.News.{News}
use Rattle.news.specs.News.{news_byte, come}
use Rattle.way.specs.Way.{empty_way, left_in}
use Rattle.bus.specs.Bus as bus
use Rattle.mailstate.specs.declared.State.{State}
use Rattle.mailstate.specs.Outcome.{Outcome}
use Rattle.mailstate.specs.Sizes.{start_state}
use Rattle.mailstate.specs.State.{with_to_loop, with_bus}
use Rattle.mailstate.proofs.Fits.{toloop_fits}
use Rattle.mailloop.specs.Sends.{send_status}
use Rattle.mailloop.specs.Messages.{passed, frame_taken}
use Rattle.mailbox.specs.BusSide as bus-side
use Rattle.mailbox.specs.Calls.{reset, loop_frame, bus_command, bus_byte, bus_fetch, bus_clear, bus_lines, Call, create, show, on, World, Did}
use Rattle.mailbox.specs.Calls.{checks, outcome, tobus_after, toloop_after, not_refused, step}
use Rattle.maillaws.specs.Mailboxes.{mailbox}
use Rattle.maillaws.specs.Sights.{to_loop, counted, waits, any, data_byte, bus_listens, cell_for, left, restarts, comes, told}
use Rattle.maillaws.specs.StateFits.{Fits}
use Rattle.maillaws.specs.NewsTold.{shows_news, showing, ends_way, news_round, StillWaits, NewsStays}
use Rattle.maillaws.proofs.Refusal.{by_refusal, fitting}
use Rattle.maillaws.proofs.FrameTests.{either_same}
use Rattle.maillaws.proofs.FrameWays.{way}
use Rattle.maillaws.proofs.Fetching.{Fetching, fetching, is_none, is_given, is_status}
use Rattle.maillaws.proofs.Requests.{any_waits}
use Rattle.maillaws.proofs.StatusSent.{status_frame, status_byte}
use Rattle.maillaws.proofs.NewsKept.{Kept, frame_stays, by_news}

-- ---- every call

abbrev Stays : List ℕ → Call → World → Did → Type 0
Stays l c w x = is_back news_round l c w x.said ≡ false → any (waits to_loop x.world) ≡ true → Kept (under_way news_round l c w x.said) x.world.state

-- a refusal leaves what is under way
refused_way : (l : List ℕ) (c : Call) (w : World) (n : ℕ) → under_way news_round l c w (refused n) ≡ l
unfolding under_way told ends_way restarts
refused_way l (on (loop_frame f)) w n = λ i. newest (showing (either_same (eqb f (made 5 97)) [] i)) l
refused_way l (create a) w n = refl
refused_way l (show side) w n = refl
refused_way l (on reset) w n = refl
refused_way l (on (bus_command c)) w n = refl
refused_way l (on (bus_byte b mark)) w n = refl
refused_way l (on bus_fetch) w n = refl
refused_way l (on bus_clear) w n = refl
refused_way l (on bus_lines) w n = refl

-- an emptied way has nothing that waits
empty_waits : {X : Type 0} (s : List ℕ) (cap : ℕ) → any (map counted (held s (empty_way cap).ring)) ≡ true → X
unfolding empty_way
empty_waits s cap e = absurd (false≢true (sym (ap (λ (l : List ℕ). any (map counted l)) (held_empty s cap)) ∙ e))

-- a byte that is left beside others, or the first
left_stays : (l : List ℕ) (s : State) → Kept l s → Kept l (with_to_loop s (left_in s.toloop))
unfolding left_in
left_stays l s q =
    by_cond (λ (n : News). Kept l (with_to_loop s (record { ring = put_ring s.toloop.ring; news = n }))) (eqb s.toloop.ring.len 0) _ _
    (λ _. record { available = refl; safe = λ f p a. absurd (true≢false a) }) (λ _. record { available = q.available; safe = q.safe })

done_stays : (l : List ℕ) (c : Call) (w : World) → Kept l w.state → first_refusal (checks c w) ≡ 0 → Stays l c w (not_refused c w)
unfolding not_refused outcome tobus_after toloop_after start_state bus-side.bus_clear bus-side.bus_lines bus-side.bus_byte bus-side.bus_cells bus-side.bus_command bus-side.status_given said under_way told ends_way restarts
done_stays l (create a) w q e n h = empty_waits w.toloop _ h
done_stays l (show side) w q e n h = q
done_stays l (on reset) w q e n h = empty_waits w.toloop _ h
done_stays l (on (loop_frame f)) w q e n h =
    frame_stays w (fitting (loop_frame f) w e).0 f l q (frame_taken w.state w.toloop f) (way w.state w.toloop f) n h
done_stays l (on (bus_command c)) w q e n h =
    by_cond (λ (t : State). any (map counted (held w.toloop t.toloop.ring)) ≡ true → Kept l (with_bus t (bus.commanded w.state.bus c))) (bus.clears w.state.bus c) _ _
    (λ _ z. empty_waits w.toloop _ z) (λ _ z. record { available = q.available; safe = q.safe }) h
done_stays l (on (bus_byte b mark)) w q e n h = by_cond (Kept l) (bus_listens w) _ _ (λ _. left_stays l w.state q) (λ _. q)
done_stays l (on bus_fetch) w q e n h = fetch_stays (bus-side.bus_fetch w.state w.tobus) (fetching w.state w.tobus)
  where
    fetch_stays : (o : Outcome) → Fetching w.state w.tobus o → Kept l o.state
    fetch_stays o is_none = q
    fetch_stays o (is_given z) = record { available = q.available; safe = q.safe }
    fetch_stays o is_status = record { available = q.available; safe = q.safe }
done_stays l (on bus_clear) w q e n h = record { available = q.available; safe = q.safe }
done_stays l (on bus_lines) w q e n h = q

call_stays : (l : List ℕ) (c : Call) (w : World) → Kept l w.state → Stays l c w (step c w)
call_stays l c w q =
    by_refusal (Stays l c w) c w (done_stays l c w q) (λ _ n h. subst (λ (x : List ℕ). Kept x w.state) (sym (refused_way l c w (first_refusal (checks c w)))) q)

run_stays : (l : List ℕ) (cs : List Call) (w : World) → Kept l w.state → Each StillWaits (course (mailbox step) cs w) → comes_back news_round l (course (mailbox step) cs w) ≡ false →
    (finally (mailbox step) cs w).state.toloop.news.available ≡ true
unfolding course finally comes_back
run_stays l [] w q h n = q.available
run_stays l (c ∷ cs) w q h n =
    let m = neither _ _ n in
    run_stays (under_way news_round l c w (step c w).said) cs (step c w).world (call_stays l c w q m.0 h.0) h.1 m.1

-- ---- where it begins

-- the first byte that is left is news
first_left : (b : ℕ) (mark : Bool) (w : World) → Fits w → comes to_loop (on (bus_byte b mark)) w (not_refused (on (bus_byte b mark)) w).said ≡ true →
    Kept [] (not_refused (on (bus_byte b mark)) w).world.state
unfolding not_refused outcome bus-side.bus_byte left left_in said
first_left b mark w F e = go (bus_listens w) (eqb w.state.toloop.ring.len 0) empty (and_left _ _ e)
  where
    not_not : (t : Bool) → not (not t) ≡ true → t ≡ true
    not_not true h = refl
    not_not false h = h

    empty : eqb w.state.toloop.ring.len 0 ≡ true
    empty = not_not (eqb w.state.toloop.ring.len 0) (ap not (sym (any_waits w.toloop w.state.toloop.ring (toloop_fits w.state w.tobus w.toloop F))) ∙ and_right (any (left to_loop (on (bus_byte b mark)) w (not_refused (on (bus_byte b mark)) w).said)) _ e)

    go : (l z : Bool) → z ≡ true → any (cond l (cell_for b mark ∷ []) []) ≡ true →
        Kept [] (cond l (with_to_loop w.state (record { ring = put_ring w.state.toloop.ring; news = cond z come w.state.toloop.news })) w.state)
    go true true h i = record { available = refl; safe = λ f p a. absurd (true≢false a) }
    go true false h i = absurd (false≢true h)
    go false z h i = absurd (false≢true i)

starts : (c : Call) (w : World) → comes to_loop c w (step c w).said ≡ true → Kept [] (step c w).world.state
unfolding left
starts (create a) w e = absurd (false≢true e)
starts (show side) w e = absurd (false≢true e)
starts (on reset) w e = absurd (false≢true e)
starts (on (loop_frame f)) w e = absurd (false≢true e)
starts (on (bus_command c)) w e = absurd (false≢true e)
starts (on bus_fetch) w e = absurd (false≢true e)
starts (on bus_clear) w e = absurd (false≢true e)
starts (on bus_lines) w e = absurd (false≢true e)
starts (on (bus_byte b mark)) w e =
    by_refusal (λ (x : Did). comes to_loop (on (bus_byte b mark)) w x.said ≡ true → Kept [] x.world.state) (on (bus_byte b mark)) w
    (λ n q. first_left b mark w (fitting (bus_byte b mark) w n).0 q) (λ n q. absurd (false≢true q)) e

-- ---- the status byte that is asked for

-- a list of one that a test gives
pub same_first : (x y : ℕ) → ◌≡◌ {A = List ℕ} (x ∷ []) (y ∷ []) → x ≡ y
same_first x y e = cc

pub only : (t : Bool) (l : List ℕ) (g : ℕ) → cond t l [] ≡ g ∷ [] → (t ≡ true) × (l ≡ g ∷ [])
only true l g e = (refl, e)
only false l g e = absurd (false≢true (ap any e))

told_frame : (w : World) (g : ℕ) → w.state.toloop.news.available ≡ true → data_byte (said (frame_taken w.state w.toloop (made 5 97)).answer) ≡ g ∷ [] → shows_news g ≡ true
unfolding said
told_frame w g a e =
    go (eqb w.state.talker.role.phase 1) (ap (λ (o : Outcome). data_byte (said o.answer)) (sym (status_frame w.state w.toloop)) ∙ e)
  where
    go : (t : Bool) → data_byte (said (cond t (send_status w.state) (passed w.state (made 5 97))).answer) ≡ g ∷ [] → shows_news g ≡ true
    go true h =
        let z : news_byte w.state.toloop.news ≡ g = same_first (news_byte w.state.toloop.news) g (sym (status_byte w.state) ∙ h) in
        subst (λ (n : ℕ). shows_news n ≡ true) z (by_news w.state.toloop.news a)
    go false h = absurd (false≢true (ap any h))

pub told_news : (t : Call) (w : World) (g : ℕ) → w.state.toloop.news.available ≡ true → told to_loop t w (step t w).said ≡ g ∷ [] → shows_news g ≡ true
unfolding told not_refused outcome
told_news (on (loop_frame f)) w g a q =
    by_refusal (λ (x : Did). cond (eqb f (made 5 97)) (data_byte x.said) [] ≡ g ∷ [] → shows_news g ≡ true) (on (loop_frame f)) w
    (λ n e. let o = only (eqb f (made 5 97)) _ g e in asked (eqb-true f (made 5 97) o.0) o.1)
    (λ n e. absurd (false≢true (ap any (only (eqb f (made 5 97)) [] g e).1))) q
  where
    asked : f ≡ made 5 97 → data_byte (not_refused (on (loop_frame f)) w).said ≡ g ∷ [] → shows_news g ≡ true
    asked z h = told_frame w g a (ap (λ (x : ℕ). data_byte (said (frame_taken w.state w.toloop x).answer)) (sym z) ∙ h)
told_news (create m) w g a e = absurd (false≢true (ap any e))
told_news (show side) w g a e = absurd (false≢true (ap any e))
told_news (on reset) w g a e = absurd (false≢true (ap any e))
told_news (on (bus_command c)) w g a e = absurd (false≢true (ap any e))
told_news (on (bus_byte b mark)) w g a e = absurd (false≢true (ap any e))
told_news (on bus_fetch) w g a e = absurd (false≢true (ap any e))
told_news (on bus_clear) w g a e = absurd (false≢true (ap any e))
told_news (on bus_lines) w g a e = absurd (false≢true (ap any e))

pub news_stays : Obeys (mailbox step) NewsStays
news_stays c cs t w h j k e ss n g q =
    told_news t (finally (mailbox step) cs (step c w).world) g (run_stays [] cs (step c w).world (starts c w e) ss n) q
