-- The kind of change of every loop frame. Assumes nothing.
use Prim.Native.Nat.{ℕ, ◌+◌, ◌≤◌}
use native.Mathlib.Omega.{arith}
use mathlib.Core.Path.{◌≡◌, refl, sym, subst, ◌∙◌}
use mathlib.Core.Bool.{Bool, true, false, cond, ◌&&◌, ◌||◌, not, and-false}
use mathlib.Core.List.{List, []}
use lib.Dec.{ltb}
use lib.ListN.{length}
use borrow.Author.Tests.{eqb-true, ltb-false, le-ltb, lt-leb}
use Rattle.frame.specs.Frame.{control_of, made, is_data}
use Rattle.role.specs.Role.{is_active}
use Rattle.reading.specs.Reading.{Sent, none, one}
use Rattle.reading.specs.Received.{Received}
use Rattle.sending.specs.Sending.{given_of, send_held}
use Rattle.state.specs.declared.State.{State}
use Rattle.state.specs.Outcome.{Outcome}
use Rattle.answers.specs.declared.Answer.TheVariants.{Frame}
use Rattle.answers.specs.Answers.{said}
use Rattle.state.specs.Conditions.{settled}
use Rattle.state.specs.Conditions as status
use Rattle.store.specs.Ring as store-ring
use Rattle.state.proofs.Fits.{tx_fits}
use Rattle.line.specs.HoldingOff.{resumed}
use Rattle.loopside.specs.LoopToLine.{adds, busy, added_state, added_bytes}
use Rattle.talker.specs.UnderWay.{talking}
use Rattle.loopside.specs.Sends.{rule_of, removed_state, send_state, send_from, send_status, ended}
use Rattle.loopside.specs.Frames.{obeyed, cleared, frame_taken, device_clear, adds_bytes, frame_bytes}
use Rattle.bridge.specs.Calls.{on, loop_frame, World, outcome, settled_by, rx_after, tx_after}
use Rattle.bridge.specs.Calls as calls
use Rattle.laws.specs.Observers.{data_frame, arrived, sent, added, handed_out, restarts, writes, clears}
use Rattle.runs.proofs.Shapes.{seen, Core, core, frames, Fits, Shape, is_still, is_cleared, is_sent, is_none, is_left}
use Rattle.runs.proofs.Quiet.{Shaped, none_arrives}
use Rattle.runs.proofs.FrameKinds.{Marks, Kind, no_data, role_fits, kind_of}
use Rattle.runs.proofs.FrameKinds as kinds

-- an outcome of a frame has a shape, with these bytes of the transmit store
abbrev FrameShaped : (w : World) → ℕ → List ℕ → Outcome → Type 0
FrameShaped w f tx o = Shape w (seen (on (loop_frame f)) w (said o.answer)) (core o.state) w.rx tx

module _ (w : World) (f : ℕ) where
  -- what is seen to be sent, by the marks
  abbrev SentSo : ℕ → Bool → Bool → Bool → Type 0
  SentSo n x y p = cond (p || y) [] (data_frame (said (Frame n))) ≡ cond x (data_frame (said (Frame n))) []

  marked : (n : ℕ) (x y p c l : Bool) (h : Core) (tx : List ℕ) → Marks w.state f x y p c l → SentSo n x y p →
      Shape w (frames (cond x (data_frame (said (Frame n))) []) (cond l (adds w.state.regs f) []) c) h w.rx tx →
      Shape w (seen (on (loop_frame f)) w (said (Frame n))) h w.rx tx
  unfolding arrived sent added adds handed_out restarts writes clears said
  marked n x y p c l h tx m q sh =
      none_arrives (on (loop_frame f)) w (said (Frame n)) h w.rx tx refl
      (subst (λ z. Shape w z h w.rx tx)
      (λ i. frames ((sym q ∙ (λ j. cond (sym m.passes j || sym m.status j) [] (data_frame (said (Frame n))))) i)
      (cond (sym m.adds i) (adds w.state.regs f) []) (sym m.clear i))
      sh)

  -- a send
  send_shape : Fits w → Marks w.state f true false false false false → FrameShaped w f w.tx (send_from w.state w.rx)
  unfolding send_from send_state ended talking removed_state resumed said
  send_shape F m = go (send_held (rule_of w.state.regs) w.rx w.state.rx) refl
    where
      go : (x : Sent Received ℕ) → send_held (rule_of w.state.regs) w.rx w.state.rx ≡ x →
          FrameShaped w f w.tx (send_state w.state (removed_state w.state w.rx) (given_of x))
      go (none r) e = marked (made 5 64) _ _ _ _ _ _ w.tx m refl (is_none r F e)
      go (one g r) e = marked (status.serviced w.state g) _ _ _ _ _ _ w.tx m refl (is_sent g r F e)

-- ---- every frame

module _ (w : World) (F : Fits w) (f : ℕ) (B : busy w.state f ≡ false) where
  room : is_data f ≡ true → w.state.talker.role.listener ≡ true → w.state.tx.len + length (adds w.state.regs f) ≤ w.state.tx.cap
  unfolding busy
  room d e =
      let r : ltb (store-ring.room w.state.tx) (length (adds w.state.regs f)) ≡ false =
      (λ i. (sym e i && sym d i) && ltb (store-ring.room w.state.tx) (length (adds w.state.regs f))) ∙ B in
      omega (arith, ltb-false (store-ring.room w.state.tx) (length (adds w.state.regs f)) r, (tx_fits w.state w.rx w.tx F).ring.within.len)

  -- a listener is no active talker
  stores : adds_bytes w.state f ≡ (is_data f && w.state.talker.role.listener)
  unfolding adds_bytes
  stores = go (is_data f) w.state.talker.role.listener refl
    where
      idle : w.state.talker.role.listener ≡ true → is_active w.state.talker.role ≡ false
      idle l = lt-leb 2 w.state.talker.role.phase (omega (arith, (role_fits w F).apart l))

      go : (d l : Bool) → w.state.talker.role.listener ≡ l → ((d && not (is_active w.state.talker.role)) && l) ≡ (d && l)
      go true true e = λ i. not (idle e i) && true
      go true false e = and-false (not (is_active w.state.talker.role))
      go false l e = refl

  -- a frame that passes is not sent, and no other is a data frame
  other_sent : (t : State) (n : ℕ) (p : Bool) → kinds.Other w.state f p t n → SentSo w f n false false p
  other_sent t n true x = refl
  other_sent t n false x = no_data n (x.answer refl)

  by_kind : (o : Outcome) → Kind w.state w.rx f o →
      FrameShaped w f (cond (is_data f && w.state.talker.role.listener) (added_bytes w.state w.tx f) w.tx) o
  unfolding send_status ended talking cleared obeyed added_state added_bytes status.after_status status.after_status_back said
  by_kind o (kinds.is_sent m) = rw m.adds (send_shape w f F m)
  by_kind o (kinds.is_status m) = rw m.adds (marked w f _ _ _ _ _ _ _ _ m refl is_still)
  by_kind o (kinds.is_back m d) = rw m.adds (marked w f (made 5 64) _ _ _ _ _ _ _ m refl is_still)
  by_kind o (kinds.is_cleared m c) =
      rw m.adds (marked w f _ _ _ _ _ _ _ _ m (no_data f (le-ltb (control_of f) 4 (omega (arith, eqb-true (control_of f) 4 c)))) is_cleared)
  by_kind o (kinds.is_kept m d l) = rw m.adds (marked w f _ _ _ _ _ _ _ _ m refl (is_left (adds w.state.regs f) F (room d l)))
  by_kind o (kinds.is_other t n p m x) =
      rw m.adds (subst (λ z. Shape w (seen (on (loop_frame f)) w (said (Frame n))) z w.rx w.tx) (sym x.core)
      (marked w f n _ _ p _ _ _ _ m (other_sent t n p x) is_still))

  frame_taken_lem : FrameShaped w f (frame_bytes w.state w.tx f) (frame_taken w.state w.rx f)
  unfolding frame_bytes
  frame_taken_lem =
      subst (λ l. FrameShaped w f (cond l (added_bytes w.state w.tx f) w.tx) (frame_taken w.state w.rx f)) (sym stores)
      (by_kind _ (kind_of f w F))

  pub frame_shape : Shaped w (on (loop_frame f)) (calls.not_refused (on (loop_frame f)) w)
  unfolding calls.not_refused outcome settled_by rx_after tx_after settled
  frame_shape = by_clear (device_clear w.state f) frame_taken_lem
    where
      o : Outcome
      o = frame_taken w.state w.rx f

      by_clear : (t : Bool) → FrameShaped w f (frame_bytes w.state w.tx f) o →
          Shape w (seen (on (loop_frame f)) w (said o.answer)) (core (cond t o.state (settled w.state o.state))) w.rx
          (frame_bytes w.state w.tx f)
      by_clear true x = x
      by_clear false x = x
