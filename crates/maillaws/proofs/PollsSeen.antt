-- What the lines and an identify frame tell. Assumes nothing.
use Prim.Native.Nat.{ℕ, ◌+◌, ◌*◌, ◌/◌, ◌%◌, ◌^◌, ◌≤◌, ◌<◌}
use native.Mathlib.Omega.{arith}
use mathlib.Core.Path.{◌≡◌, refl, ap, ◌∙◌}
use mathlib.Core.Bool.{Bool, true, false, cond, ◌&&◌, ◌||◌, not, false≢true}
use lib.Dec.{leb}
use borrow.Author.Tests.{leb-true, ne_eqb, le-ltb, ltb-false}
use Rattle.machine.specs.Machine.{Obeys}
use Rattle.answers.specs.Refusals.{first_refusal}
use Rattle.answers.specs.Answers.{Said, frame, lines, said}
use Rattle.frame.specs.Frame.{control_of, data_of, made, with_service}
use Rattle.polls.specs.declared.Response.{Response}
use Rattle.polls.specs.Polls.{answer_bits, has_bit, joined}
use Rattle.bus.specs.declared.Bus.{Bus}
use Rattle.bus.specs.Bus.{poll_bits}
use Rattle.mailstate.specs.Outcome.{Outcome}
use Rattle.mailstate.proofs.Fits.{loop_line}
use Rattle.mailloop.specs.Sends.{serviced}
use Rattle.mailloop.specs.Messages.{identify, frame_taken}
use Rattle.mailbox.specs.BusSide as bus-side
use Rattle.mailbox.specs.Calls.{loop_frame, bus_lines, Call, on, World, Did, checks, outcome, not_refused, step}
use Rattle.maillaws.specs.Mailboxes.{mailbox}
use Rattle.maillaws.specs.Sights.{to_loop, news_of, taken}
use Rattle.maillaws.specs.PollsTold.{lines_of, LinesTold, answers_poll, with_bit, IdentifyTold}
use Rattle.maillaws.proofs.Refusal.{by_refusal, frame_fitting}
use Rattle.maillaws.proofs.HeldBack.{at_call}
use Rattle.maillaws.proofs.Small.{joined_small}

-- ---- the lines

lines_right : (b : Bus) (r : Bool) → bus-side.cell_with (poll_bits b r) r ≡ cond r (cond b.polled (2 ^ b.line + 256) 256) 0
unfolding poll_bits answer_bits
lines_right b r = go b.polled r
  where
    go : (p r : Bool) → bus-side.cell_with (cond (p && ((true && r) || (not true && not r))) (2 ^ b.line) 0) r ≡ cond r (cond p (2 ^ b.line + 256) 256) 0
    go true true = refl
    go true false = refl
    go false true = refl
    go false false = refl

pub lines_told : Obeys (mailbox step) LinesTold
unfolding not_refused outcome said bus-side.bus_lines
lines_told c w _ =
    at_call (λ (x : Call). taken (step x w).said ≡ true → (step x w).said ≡ lines (lines_of w)) (on bus_lines)
    (by_refusal (λ (d : Did). taken d.said ≡ true → d.said ≡ lines (lines_of w)) (on bus_lines) w
    (λ _ _. ap lines (lines_right w.state.bus w.state.tobus.news.request)) (λ _ h. absurd (false≢true h)))
    c

-- ---- the identify frame

-- the bit of our line, by the response and whether service is requested
joined_right : (p : Response) (r : Bool) (d : ℕ) → joined p r d ≡ cond (answers_poll p r) (with_bit p.line d) d
unfolding joined
joined_right p r d = go p.on p.sense r (has_bit d p.line)
  where
    go : (o s r h : Bool) →
        cond ((o && ((s && r) || (not s && not r))) && not h) (d + 2 ^ p.line) d ≡ cond (o && cond s r (not r)) (cond h d (d + 2 ^ p.line)) d
    go false s r h = refl
    go true true true true = refl
    go true true true false = refl
    go true true false h = refl
    go true false true h = refl
    go true false false true = refl
    go true false false false = refl

-- an identify frame out, with the service bit where service is requested
out_right : (t : Bool) (k b : ℕ) → 6 ≤ k → k ≤ 7 → b < 256 →
    frame (control_of (cond t (with_service (made k b)) (made k b))) (data_of (cond t (with_service (made k b)) (made k b))) ≡ frame (cond t 7 k) b
unfolding with_service
out_right true k b l h s = λ i. frame (control i) (byte i)
  where
    control : (((k * 256 + b) / 256 / 2 * 2 + 1) * 256 + (k * 256 + b) % 256) / 256 ≡ 7
    control = omega arith

    byte : (((k * 256 + b) / 256 / 2 * 2 + 1) * 256 + (k * 256 + b) % 256) % 256 ≡ b
    byte = omega arith
out_right false k b l h s = λ i. frame (control i) (byte i)
  where
    control : (k * 256 + b) / 256 ≡ k
    control = omega arith

    byte : (k * 256 + b) % 256 ≡ b
    byte = omega arith

module _ (w : World) (f : ℕ) (e : first_refusal (checks (on (loop_frame f)) w) ≡ 0) (k : leb 6 (control_of f) ≡ true) where
  high : 6 ≤ f / 256
  high = leb-true 6 (f / 256) k

  is_identify : frame_taken w.state w.toloop f ≡ identify w.state f
  unfolding frame_taken
  is_identify = rw (le-ltb (f / 256) 4 (omega (arith, high)), ne_eqb (f / 256) 4 (λ q. omega (arith, high)), ne_eqb (f / 256) 5 (λ q. omega (arith, high)))

  identified : said (frame_taken w.state w.toloop f).answer ≡
      frame (cond w.state.toloop.news.request 7 (control_of f))
      (cond (answers_poll w.state.response w.state.toloop.news.request) (with_bit w.state.response.line (data_of f)) (data_of f))
  unfolding identify serviced said
  identified =
      ap (λ (o : Outcome). said o.answer) is_identify
      ∙ out_right w.state.toloop.news.request (control_of f) (joined w.state.response w.state.toloop.news.request (data_of f)) high
      (omega (arith, ltb-false 2047 f (frame_fitting f w e).1.0))
      (joined_small w.state.response w.state.toloop.news.request (data_of f)
      (loop_line w.state w.tobus w.toloop (frame_fitting f w e).0) (omega arith))
      ∙ ap (frame (cond w.state.toloop.news.request 7 (control_of f))) (joined_right w.state.response w.state.toloop.news.request (data_of f))

pub identify_told : Obeys (mailbox step) IdentifyTold
unfolding not_refused outcome
identify_told c w _ f =
    at_call (λ (x : Call). taken (step x w).said ≡ true → leb 6 (control_of f) ≡ true → (step x w).said ≡ out) (on (loop_frame f))
    (by_refusal (λ (d : Did). taken d.said ≡ true → leb 6 (control_of f) ≡ true → d.said ≡ out) (on (loop_frame f)) w
    (λ e _ k. identified w f e k) (λ _ h. absurd (false≢true h)))
    c
  where
    out : Said
    out =
        frame (cond (news_of to_loop w).request 7 (control_of f))
        (cond (answers_poll w.state.response (news_of to_loop w).request) (with_bit w.state.response.line (data_of f)) (data_of f))
