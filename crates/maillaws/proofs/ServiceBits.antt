-- The service bit of every frame out. Assumes nothing.
use Prim.Native.Nat.{ℕ, ◌+◌, ◌/◌, ◌%◌, ◌<◌}
use native.Mathlib.Omega.{arith}
use mathlib.Core.Path.{◌≡◌, refl, sym, subst, ◌∙◌}
use mathlib.Core.Bool.{Bool, true, false, cond, ◌&&◌, ◌||◌, or-false, false≢true}
use lib.Dec.{eqb, leb, ltb}
use lib.ListN.{get_or}
use borrow.Author.Tests.{eqb-true, eqb-false, ne_eqb, lt-ltb, le-ltb, ltb-true, ltb-false}
use Rattle.branches.proofs.Branches.{by_cond, and_left, and_right}
use Rattle.machine.specs.Machine.{Obeys}
use Rattle.frame.specs.Frame.{control_of, data_of, made, is_data, has_service, with_service}
use Rattle.frame.proofs.Laws.{service_set, control_service, control_made, data_small}
use Rattle.answers.specs.Answers.{said, frame}
use Rattle.answers.specs.declared.Answer.{Answer}
use Rattle.answers.specs.declared.Answer.TheVariants as answer
use Rattle.role.specs.ReadyFrames.{gives_address}
use Rattle.role.proofs.ReadyLaws.{address_numbers}
use Rattle.store.specs.Ring.{held}
use Rattle.mailstate.specs.declared.State.{State}
use Rattle.mailstate.specs.Outcome.{Outcome}
use Rattle.mailloop.specs.Sends.{marked, frame_of, serviced, ended, sends, send_waiting, send_id, send_accessory, send_status}
use Rattle.mailloop.specs.Messages.{released, identify}
use Rattle.mailbox.specs.Calls.{loop_frame, Call, on, World, Did, outcome, not_refused, step}
use Rattle.maillaws.specs.Mailboxes.{mailbox}
use Rattle.maillaws.specs.Requesting.{carries_service}
use Rattle.maillaws.specs.ServiceOut.{had_service, kind_out, ServiceRight, ServiceBit}
use Rattle.maillaws.proofs.Refusal.{by_refusal, frame_fitting}
use Rattle.maillaws.proofs.Small.{news_small, id_small, frame_small, joined_small}
use Rattle.maillaws.proofs.FitParts.{Parts, parts}
use Rattle.maillaws.proofs.FrameTests.{data_not, data_no_frame, no_frame_by_control, frame_is}
use Rattle.maillaws.proofs.FrameWays.{Way, way, Returning, Arriving, Commanding, Readying, Identifying}
use Rattle.maillaws.proofs.FrameWays.{is_next, is_next_id, is_back, is_last, is_damaged, is_held, is_heard, is_passed}
use Rattle.maillaws.proofs.FrameWays.{is_cleared, is_obeyed, is_released, is_assigned, is_send_asked, is_told, is_finishing, is_id_asked}
use Rattle.maillaws.proofs.FrameWays.{is_accessory, is_ready, is_identified}

-- what the service bit of a frame does to the control: its kind stays, and the bit is set where service is requested, or was
record Serviced (s : State) (g k : ℕ) : Type 0 where
  half : k / 2 ≡ control_of g / 2
  bit : eqb (k % 2) 1 ≡ (s.toloop.news.request || has_service g)

is_serviced : (s : State) (g : ℕ) → Serviced s g (control_of (serviced s g))
unfolding serviced
is_serviced s g = go s.toloop.news.request refl
  where
    go : (t : Bool) → s.toloop.news.request ≡ t → Serviced s g (control_of (cond t (with_service g) g))
    go true e = record { half = omega (arith, control_service g); bit = service_set g ∙ sym (λ i. e i || has_service g) }
    go false e = record { half = refl; bit = sym (λ i. e i || has_service g) }

module _ (w : World) (p : Parts w.tobus w.toloop w.state) (f : ℕ) where
  abbrev s : State
  s = w.state

  -- of the answer: whatever frame it is, its service bit is right
  abbrev RightOf : Answer → Type 0
  RightOf a = (k d : ℕ) → said a ≡ frame k d → ServiceRight w f k

  abbrev Right : Outcome → Type 0
  Right o = RightOf o.answer

  first_of : (a b k d : ℕ) → frame a b ≡ frame k d → a ≡ k
  first_of a b k d e = cc

  -- the frame g is out
  is_out : (g : ℕ) → ServiceRight w f (control_of g) → RightOf (answer.Frame g)
  unfolding said
  is_out g r k d e = subst (ServiceRight w f) (first_of (control_of g) (data_of g) k d e) r

  -- a frame that carries no bit
  bare : (k : ℕ) → carries_service k ≡ false → kind_out (control_of f) k ≡ true → ServiceRight w f k
  bare k c q = record { bit = λ e. absurd (false≢true (sym c ∙ e)); kind = q }

  -- not for a command, nor for an identify frame: a data frame is out, or a ready frame
  low_kind : (k : ℕ) → eqb (control_of f) 4 ≡ false → ltb 5 (control_of f) ≡ false → (ltb k 4 || eqb k 5) ≡ true → kind_out (control_of f) k ≡ true
  low_kind k a b e = rw (a, b, e)

  data_kind : (k : ℕ) → eqb (control_of f) 4 ≡ false → ltb 5 (control_of f) ≡ false → k < 4 → kind_out (control_of f) k ≡ true
  data_kind k a b l = low_kind k a b (λ i. lt-ltb k 4 l i || eqb k 5)

  data_low : is_data f ≡ true → ltb 5 (control_of f) ≡ false
  data_low D = le-ltb 5 (control_of f) (omega (arith, ltb-true (control_of f) 4 D))

  five_low : eqb (control_of f) 5 ≡ true → ltb 5 (control_of f) ≡ false
  five_low e = le-ltb 5 (control_of f) (omega (arith, eqb-true (control_of f) 5 e))

  -- 5,d ends our sending, and what else is a ready frame
  five : is_data f ≡ true → ServiceRight w f 5
  five D = bare 5 refl (low_kind 5 (data_not f 4 D (omega arith)) (data_low D) refl)

  five_ready : Readying f → ServiceRight w f 5
  five_ready r = bare 5 refl (low_kind 5 r.four (five_low r.five) refl)

  -- a data frame g that we send, which has no service bit itself
  sent : (g : ℕ) → g < 1024 → has_service g ≡ false → eqb (control_of f) 4 ≡ false → ltb 5 (control_of f) ≡ false → had_service w f ≡ false →
      ServiceRight w f (control_of (serviced s g))
  sent g l n a b h =
      let x = is_serviced s g in
      record {
        bit = λ _. x.bit ∙ (λ i. s.toloop.news.request || (n ∙ sym h) i);
        kind = data_kind (control_of (serviced s g)) a b (omega (arith, x.half));
      }

  -- the cell of a data frame, and a byte, have no service bit
  cell_bare : (c : ℕ) → has_service (frame_of c) ≡ false
  cell_bare c =
      by_cond (λ (k : ℕ). has_service (made k (c % 256)) ≡ false) (marked c) 2 0 (λ _. ne_eqb (made 2 (c % 256) / 256 % 2) 1 (λ e. omega arith))
      (λ _. ne_eqb (made 0 (c % 256) / 256 % 2) 1 (λ e. omega arith))

  byte_bare : (b : ℕ) → b < 256 → has_service (made 0 b) ≡ false
  byte_bare b l = ne_eqb (made 0 b / 256 % 2) 1 (λ e. omega arith)

  -- for a return, and for a ready frame that releases none, no frame goes on
  back_had : Returning s f → had_service w f ≡ false
  back_had r = rw (r.isdata, r.active, data_low r.isdata, data_no_frame f 5 66 r.isdata (omega arith) (omega arith))

  ready_had : Readying f → (eqb (data_of f) 66 && s.hold.held) ≡ false → had_service w f ≡ false
  ready_had r h = rw (r.isdata, five_low r.five, frame_is f 5 66 (omega arith), r.five, h)

  record Sender : Type 0 where
    four : eqb (control_of f) 4 ≡ false
    low : ltb 5 (control_of f) ≡ false
    had : had_service w f ≡ false

  by_return : Returning s f → Sender
  by_return r = record { four = data_not f 4 r.isdata (omega arith); low = data_low r.isdata; had = back_had r }

  by_ready : Readying f → (eqb (data_of f) 66 && s.hold.held) ≡ false → Sender
  by_ready r h = record { four = r.four; low = five_low r.five; had = ready_had r h }

  ended_right : Sender → (t : State) (d : ℕ) → d < 256 → Right (ended t d)
  unfolding ended
  ended_right q t d l = is_out (made 5 d) (subst (ServiceRight w f) (sym (control_made 5 d l)) (bare 5 refl (low_kind 5 q.four q.low refl)))

  cell_right : Sender → (c : ℕ) → ServiceRight w f (control_of (serviced s (frame_of c)))
  cell_right q c = sent (frame_of c) (frame_small c) (cell_bare c) q.four q.low q.had

  waiting_right : Sender → Right (send_waiting s w.toloop)
  unfolding send_waiting sends
  waiting_right q =
      by_cond Right (eqb s.toloop.ring.len 0) _ _ (λ _. ended_right q s 64 (omega arith))
      (λ _. is_out _ (cell_right q (get_or (held w.toloop s.toloop.ring) 0 0)))

  byte_right : Sender → (b : ℕ) → b < 256 → ServiceRight w f (control_of (serviced s (made 0 b)))
  byte_right q b l = sent (made 0 b) (omega arith) (byte_bare b l) q.four q.low q.had

  id_right : Sender → (n : ℕ) → Right (send_id s n)
  unfolding send_id sends
  id_right q n = by_cond Right (leb 10 n) _ _ (λ _. ended_right q s 64 (omega arith)) (λ _. is_out _ (byte_right q _ (id_small n)))

  -- a data frame of another goes on
  others_right : Arriving s f → ServiceRight w f (control_of (serviced s f))
  others_right r =
      let x = is_serviced s f in
      record {
        bit = λ _. x.bit ∙ sym (rw (r.isdata, r.idle, data_no_frame f 5 66 r.isdata (omega arith) (omega arith), or-false));
        kind = data_kind (control_of (serviced s f)) (data_not f 4 r.isdata (omega arith)) (data_low r.isdata)
            (omega (arith, x.half, ltb-true (control_of f) 4 r.isdata));
      }

  -- a command, and a ready frame, as it is
  command_right : Commanding f → ServiceRight w f (control_of f)
  command_right r = bare (control_of f) (rw (eqb-true (control_of f) 4 r.four)) (rw r.four)

  ready_right : Readying f → ServiceRight w f (control_of f)
  ready_right r = subst (ServiceRight w f) (sym (eqb-true (control_of f) 5 r.five)) (five_ready r)

  -- the frame that was held back
  released_right : Readying f → (eqb (data_of f) 66 && s.hold.held) ≡ true → ServiceRight w f (control_of (serviced s s.hold.frame))
  released_right r h =
      let x = is_serviced s s.hold.frame in
      record {
        bit = λ _. x.bit ∙ sym (rw (r.isdata, five_low r.five, frame_is f 5 66 (omega arith), r.five, h));
        kind = data_kind (control_of (serviced s s.hold.frame)) r.four (five_low r.five) (omega (arith, x.half, p.hold));
      }

  address_small : gives_address s.talker.role (data_of f) ≡ true → data_of f + 1 < 256
  address_small a =
      let b = address_numbers s.talker.role (data_of f) ∙ a in
      let high = and_right (leb 128 (data_of f)) _ (and_left (leb 128 (data_of f) && ltb (data_of f) 159) _ b) in
      omega (arith, ltb-true (data_of f) 159 high)

  identify_right : Identifying f → (b : ℕ) → b < 256 → ServiceRight w f (control_of (serviced s (made (control_of f) b)))
  identify_right r b l =
      let x = is_serviced s (made (control_of f) b) in
      let c = control_made (control_of f) b l in
      let a = eqb-false (control_of f) 4 r.four in
      let e = eqb-false (control_of f) 5 r.five in
      let high : ltb 5 (control_of f) ≡ true = lt-ltb 5 (control_of f) (omega (arith, ltb-false (control_of f) 4 r.isdata)) in
      record {
        bit = λ _. x.bit ∙ (λ i. s.toloop.news.request || eqb (c i % 2) 1)
            ∙ sym (rw (r.isdata, high, no_frame_by_control f 5 66 (omega arith) r.five, or-false));
        kind = rw (r.four, high) (lt-ltb 5 (control_of (serviced s (made (control_of f) b))) (omega (arith, x.half, c, ltb-true 5 (control_of f) high)));
      }

  way_right : (o : Outcome) → Way s w.toloop f o → Right o
  unfolding sends send_status send_accessory released identify
  way_right o (is_next r z) = waiting_right (by_return r.back)
  way_right o (is_next_id r z) = id_right (by_return r.back) s.source
  way_right o (is_back r m k) = ended_right (by_return r) _ 64 (omega arith)
  way_right o (is_last r m k e) = ended_right (by_return r) _ 64 (omega arith)
  way_right o (is_damaged r m) = ended_right (by_return r) _ 65 (omega arith)
  way_right o (is_held r l e) = is_out (made 5 66) (five r.isdata)
  way_right o (is_heard r l e) = is_out _ (others_right r)
  way_right o (is_passed r l) = is_out _ (others_right r)
  way_right o (is_cleared r c) = is_out _ (command_right r)
  way_right o (is_obeyed r c) = is_out _ (command_right r)
  way_right o (is_released r e) = is_out _ (released_right r e)
  way_right o (is_assigned r e a) = is_out _ (subst (ServiceRight w f) (sym (control_made 5 (data_of f + 1) (address_small a))) (five_ready r))
  way_right o (is_send_asked r x) = waiting_right (by_ready r.readying r.unheld)
  way_right o (is_told r x y) = is_out _ (byte_right (by_ready r.readying r.unheld) _ (news_small s.toloop.news))
  way_right o (is_finishing r x y z) = is_out _ (ready_right r.readying)
  way_right o (is_id_asked r x y z u) = id_right (by_ready r.readying r.unheld) 0
  way_right o (is_accessory r x y z u v) = is_out _ (byte_right (by_ready r.readying r.unheld) 67 (omega arith))
  way_right o (is_ready r x y z u v) = is_out _ (ready_right r.readying)
  way_right o (is_identified r) =
      is_out _ (identify_right r _ (joined_small s.response s.toloop.news.request (data_of f) p.line (data_small f)))

pub service_bit : Obeys (mailbox step) ServiceBit
unfolding not_refused outcome
service_bit c w _ f k d q =
    subst (λ (x : Call). (step x w).said ≡ frame k d → ServiceRight w f k) (sym q)
    (by_refusal (λ (x : Did). x.said ≡ frame k d → ServiceRight w f k) (on (loop_frame f)) w
    (λ e. way_right w (parts w.tobus w.toloop w.state (frame_fitting f w e).0) f _ (way w.state w.toloop f) k d)
    (λ _ h. let y : ◌≡◌ {A = ℕ} 0 1 = cc in absurd (omega arith)))
