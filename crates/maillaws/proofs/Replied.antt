-- What each call answers, that it refuses exactly when a check is given, and that a frame is 11 bits and a cell nine. Assumes nothing.
use Prim.Native.Nat.{ℕ, ◌%◌, ◌+◌, ◌<◌}
use native.Mathlib.Omega.{arith}
use mathlib.Core.Path.{◌≡◌, refl, sym, ap, subst, ◌∙◌}
use mathlib.Core.Bool.{true, false, ◌&&◌, false≢true}
use mathlib.Core.List.{List}
use lib.Dec.{eqb, leb}
use lib.ListN.{get_or}
use borrow.Author.Tests.{lt-ltb, ltb-false, not-false}
use Rattle.branches.proofs.Branches.{by_cond}
use Rattle.machine.specs.Machine.{Obeys}
use Rattle.frame.specs.Frame.{control_of, data_of}
use Rattle.frame.proofs.Laws.{service_small, data_small}
use Rattle.answers.specs.Refusals.{first_refusal}
use Rattle.answers.specs.Refusing.{Refuses}
use Rattle.answers.specs.Answers.{Said, refused, said, is_refusal}
use Rattle.answers.specs.declared.Answer.{Answer}
use Rattle.answers.specs.declared.Answer.TheVariants as answer
use Rattle.store.specs.Ring.{held}
use Rattle.bus.specs.Bus.{poll_bits, response_of}
use Rattle.news.specs.News.{news_byte}
use Rattle.mailstate.specs.declared.State.{State}
use Rattle.mailstate.specs.Outcome.{Outcome}
use Rattle.mailloop.specs.Sends.{serviced, ended, sends, send_waiting, send_id, send_accessory, send_status}
use Rattle.mailloop.specs.Messages.{passed, released, identify, frame_taken}
use Rattle.mailbox.specs.BusSide as bus-side
use Rattle.mailbox.specs.Calls.{reset, loop_frame, bus_command, bus_byte, bus_fetch, bus_clear, bus_lines, Call, create, show, on}
use Rattle.mailbox.specs.Calls.{World, Did, outcome, not_refused, checks, step}
use Rattle.maillaws.specs.Mailboxes.{mailbox}
use Rattle.maillaws.specs.Sights.{taken, is_frame}
use Rattle.maillaws.specs.Replies.{can_answer, is_narrow, AnswersSo, RefusedExactly, RefusedStays, OneFrameOut, NarrowAnswers}
use Rattle.maillaws.proofs.Refusal.{by_refusal, fitting, frame_fitting}
use Rattle.maillaws.proofs.Small.{news_small, id_small, frame_small, bits_small, joined_small}
use Rattle.maillaws.proofs.FitParts.{Parts, parts}
use Rattle.maillaws.proofs.Fetching.{Fetching, is_none, is_given, is_status, fetching}
use Rattle.maillaws.proofs.FrameWays.{Way, way, is_next, is_next_id, is_back, is_last, is_damaged, is_held, is_heard, is_passed}
use Rattle.maillaws.proofs.FrameWays.{is_cleared, is_obeyed, is_released, is_assigned, is_send_asked, is_told, is_finishing, is_id_asked}
use Rattle.maillaws.proofs.FrameWays.{is_accessory, is_ready, is_identified}

-- ---- a frame of 11 bits for a frame

record Framed (o : Outcome) : Type 0 where
  out : ℕ
  answers : o.answer ≡ answer.Frame out
  small : out < 2048

framed : (s : State) (f : ℕ) → f < 2048 → Framed (passed s f)
framed s f h = record { out = f; answers = refl; small = h }

serviced_small : (s : State) (f : ℕ) → f < 2048 → serviced s f < 2048
unfolding serviced
serviced_small s f h = by_cond (λ (n : ℕ). n < 2048) s.toloop.news.request _ _ (λ _. service_small f h) (λ _. h)

module _ (s : State) where
  ended_framed : (t : State) (d : ℕ) → d < 256 → Framed (ended t d)
  unfolding ended
  ended_framed t d h = framed _ _ (omega arith)

  sends_framed : (t : State) (f n : ℕ) → f < 1024 → Framed (sends s t f n)
  unfolding sends
  sends_framed t f n h = framed _ _ (serviced_small s f (omega arith))

  waiting_framed : (cells : List ℕ) → Framed (send_waiting s cells)
  unfolding send_waiting
  waiting_framed cells =
      by_cond Framed (eqb s.toloop.ring.len 0) _ _ (λ _. ended_framed s 64 (omega arith))
      (λ _. sends_framed _ _ 0 (frame_small (get_or (held cells s.toloop.ring) 0 0)))

  id_framed : (n : ℕ) → Framed (send_id s n)
  unfolding send_id
  id_framed n = by_cond Framed (leb 10 n) _ _ (λ _. ended_framed s 64 (omega arith)) (λ _. sends_framed s _ (n + 1) (omega (arith, id_small n)))

  module _ (tobus toloop : List ℕ) (p : Parts tobus toloop s) (f : ℕ) (h : f < 2048) where
    way_framed : (o : Outcome) → Way s toloop f o → Framed o
    unfolding send_status send_accessory released identify
    way_framed o (is_next r z) = waiting_framed toloop
    way_framed o (is_next_id r z) = id_framed s.source
    way_framed o (is_back r m k) = ended_framed _ 64 (omega arith)
    way_framed o (is_last r m k e) = ended_framed s 64 (omega arith)
    way_framed o (is_damaged r m) = ended_framed s 65 (omega arith)
    way_framed o (is_held r l e) = framed _ _ (omega arith)
    way_framed o (is_heard r l e) = framed _ _ (serviced_small s f h)
    way_framed o (is_passed r l) = framed _ _ (serviced_small s f h)
    way_framed o (is_cleared r c) = framed _ _ h
    way_framed o (is_obeyed r c) = framed _ _ h
    way_framed o (is_released r e) = framed _ _ (serviced_small s s.hold.frame (omega (arith, p.hold)))
    way_framed o (is_assigned r e a) = framed _ _ (omega arith)
    way_framed o (is_send_asked r x) = waiting_framed toloop
    way_framed o (is_told r x y) = framed _ _ (serviced_small s _ (omega (arith, news_small s.toloop.news)))
    way_framed o (is_finishing r x y z) = framed _ _ h
    way_framed o (is_id_asked r x y z u) = id_framed 0
    way_framed o (is_accessory r x y z u v) = sends_framed s _ 10 (omega arith)
    way_framed o (is_ready r x y z u v) = framed _ _ h
    way_framed o (is_identified r) =
        framed _ _ (serviced_small s _ (omega (arith, joined_small s.response s.toloop.news.request (data_of f) p.line (data_small f))))

loop_framed : (f : ℕ) (w : World) → first_refusal (checks (on (loop_frame f)) w) ≡ 0 → Framed (frame_taken w.state w.toloop f)
loop_framed f w e =
    let x = frame_fitting f w e in
    way_framed w.state w.tobus w.toloop (parts w.tobus w.toloop w.state x.0) f (omega (arith, ltb-false 2047 f x.1.0)) _
    (way w.state w.toloop f)

-- ---- every call that is accepted

-- what a call answers when it is not refused: one of its answers, narrow and no refusal
record Replied (c : Call) (x : Said) : Type 0 where
  answer : can_answer c x ≡ true
  taken : is_refusal x ≡ false
  narrow : is_narrow x ≡ true

frame_replied : (f : ℕ) (o : Outcome) → Framed o → Replied (on (loop_frame f)) (said o.answer)
unfolding said
frame_replied f o g =
    subst (λ (a : Answer). Replied (on (loop_frame f)) (said a)) (sym g.answers)
    (record {
      answer = refl;
      taken = refl;
      narrow = λ i. lt-ltb (control_of g.out) 8 (omega (arith, g.small)) i && lt-ltb (data_of g.out) 256 (omega arith) i;
    })

fetch_replied : (s : State) (cells : List ℕ) (o : Outcome) → Fetching s cells o → Replied (on bus_fetch) (said o.answer)
unfolding said bus-side.status_given
fetch_replied s cells o is_none = record { answer = refl; taken = refl; narrow = refl }
fetch_replied s cells o (is_given h) = record { answer = refl; taken = refl; narrow = lt-ltb (get_or (held cells s.tobus.ring) 0 0 % 512) 512 (omega arith) }
fetch_replied s cells o is_status =
    record { answer = refl; taken = refl; narrow = lt-ltb (news_byte s.tobus.news) 512 (omega (arith, news_small s.tobus.news)) }

lines_small : (s : State) → s.bus.line < 8 → bus-side.cell_with (poll_bits s.bus s.tobus.news.request) s.tobus.news.request < 512
unfolding poll_bits
lines_small s h =
    let k = bits_small (response_of s.bus) s.tobus.news.request h in
    by_cond (λ (n : ℕ). n < 512) s.tobus.news.request _ _ (λ _. omega (arith, k)) (λ _. omega (arith, k))

replied : (c : Call) (w : World) → first_refusal (checks c w) ≡ 0 → Replied c (not_refused c w).said
unfolding not_refused outcome said bus-side.bus_command bus-side.bus_byte bus-side.bus_clear bus-side.bus_lines
replied (create a) w e = record { answer = refl; taken = refl; narrow = refl }
replied (show side) w e = record { answer = refl; taken = refl; narrow = refl }
replied (on reset) w e = record { answer = refl; taken = refl; narrow = refl }
replied (on (loop_frame f)) w e = frame_replied f _ (loop_framed f w e)
replied (on (bus_command c)) w e = record { answer = refl; taken = refl; narrow = refl }
replied (on (bus_byte b mark)) w e = record { answer = refl; taken = refl; narrow = refl }
replied (on bus_fetch) w e = fetch_replied w.state w.tobus _ (fetching w.state w.tobus)
replied (on bus_clear) w e = record { answer = refl; taken = refl; narrow = refl }
replied (on bus_lines) w e =
    record {
      answer = refl;
      taken = refl;
      narrow = lt-ltb _ 512 (lines_small w.state (parts w.tobus w.toloop w.state (fitting bus_lines w e).0).bus.line);
    }

pub loop_taken : (f : ℕ) (w : World) → first_refusal (checks (on (loop_frame f)) w) ≡ 0 → is_refusal (said (frame_taken w.state w.toloop f).answer) ≡ false
loop_taken f w e = (frame_replied f _ (loop_framed f w e)).taken

-- ---- the laws

-- every call can answer a refusal but showing, which has no checks
can_refuse : (c : Call) (w : World) → (first_refusal (checks c w) ≡ 0 → ⊥) → (n : ℕ) → can_answer c (refused n) ≡ true
unfolding checks
can_refuse (create a) w h n = refl
can_refuse (show side) w h n = absurd (h refl)
can_refuse (on reset) w h n = refl
can_refuse (on (loop_frame f)) w h n = refl
can_refuse (on (bus_command c)) w h n = refl
can_refuse (on (bus_byte b mark)) w h n = refl
can_refuse (on bus_fetch) w h n = refl
can_refuse (on bus_clear) w h n = refl
can_refuse (on bus_lines) w h n = refl

pub answers_so : Obeys (mailbox step) AnswersSo
answers_so c w _ =
    by_refusal (λ (d : Did). can_answer c d.said ≡ true) c w (λ e. (replied c w e).answer) (λ h. can_refuse c w h (first_refusal (checks c w)))

pub narrow_answers : Obeys (mailbox step) NarrowAnswers
narrow_answers c w _ = by_refusal (λ (d : Did). is_narrow d.said ≡ true) c w (λ e. (replied c w e).narrow) (λ _. refl)

pub refused_exactly : Obeys (mailbox step) RefusedExactly
refused_exactly c w _ =
    by_refusal (λ (d : Did). Refuses d.said d.world (first_refusal (checks c w)) w) c w
    (λ e. record {
      when = λ m h. absurd (false≢true (sym (replied c w e).taken ∙ ap is_refusal h));
      given = λ h. absurd (h e);
      accepts = λ h. (replied c w e).taken;
      leaves = λ h. absurd (false≢true (sym (replied c w e).taken ∙ h));
    })
    (λ h. record { when = λ m q. cc; given = λ q. refl; accepts = λ q. absurd (h q); leaves = λ q. refl })

pub refused_stays : Obeys (mailbox step) RefusedStays
refused_stays c w u h = (refused_exactly c w u).leaves (not-false _ h)

pub one_frame_out : Obeys (mailbox step) OneFrameOut
unfolding not_refused outcome said
one_frame_out c w _ f q =
    subst (λ (x : Call). taken (step x w).said ≡ true → is_frame (step x w).said ≡ true) (sym q)
    (by_refusal (λ (d : Did). taken d.said ≡ true → is_frame d.said ≡ true) (on (loop_frame f)) w
    (λ e _. ap (λ (a : Answer). is_frame (said a)) (loop_framed f w e).answers) (λ _ h. absurd (false≢true h)))
