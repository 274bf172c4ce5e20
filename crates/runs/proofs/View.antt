-- The kind of change of every call in every world. Assumes nothing.
use Prim.Native.Nat.{ℕ}
use mathlib.Core.Path.{◌≡◌, refl}
use mathlib.Core.Bool.{Bool, true, false, cond, ◌||◌}
use mathlib.Core.List.{[]}
use Rattle.answers.specs.Answers.{said, done, refused}
use Rattle.state.specs.Conditions.{settled, break_state, key_state}
use Rattle.bridge.specs.Calls.{Call, on, create, reset, write, line_byte, line_break, key, ask_line_byte, take_line_byte, loop_frame}
use Rattle.bridge.specs.Calls.{show, World, Did, checks, outcome, settled_by, rx_after, tx_after, refused_or, step, refusal}
use Rattle.bridge.specs.Calls as calls
use Rattle.laws.specs.Observers.{passes_on, asks_status, arrived, sent, added, handed_out, restarts, writes, clears}
use Rattle.runs.proofs.Shapes.{core, frames, Shape, is_still, is_begun, is_broken}
use Rattle.laws.proofs.Refusing.{fitting, write_fitting, take_fitting, frame_fitting}
use Rattle.runs.proofs.Refusals.{or_refused}
use Rattle.runs.proofs.Quiet.{Shaped, none_arrives}
use Rattle.runs.proofs.LineView.{line_shape, gone_shape, write_shape}
use Rattle.runs.proofs.FrameView.{frame_shape}

-- ---- refusals

module _ (w : World) where
  refused_still : (c : Call) (n : ℕ) → Shaped w c (refusal n w)
  unfolding arrived sent added handed_out restarts writes clears
  refused_still (create m) n = none_arrives (create m) w (refused n) _ _ _ refl is_still
  refused_still (on reset) n = none_arrives (on reset) w (refused n) _ _ _ refl is_still
  refused_still (on (write a v)) n = none_arrives (on (write a v)) w (refused n) _ _ _ refl is_still
  refused_still (on (line_byte b)) n = none_arrives (on (line_byte b)) w (refused n) _ _ _ refl is_still
  refused_still (on line_break) n = none_arrives (on line_break) w (refused n) _ _ _ refl is_still
  refused_still (on key) n = none_arrives (on key) w (refused n) _ _ _ refl is_still
  refused_still (on ask_line_byte) n = none_arrives (on ask_line_byte) w (refused n) _ _ _ refl is_still
  refused_still (on (take_line_byte b)) n = none_arrives (on (take_line_byte b)) w (refused n) _ _ _ refl is_still
  refused_still (on (loop_frame f)) n = none_arrives (on (loop_frame f)) w (refused n) _ _ _ refl (go (passes_on w.state f || asks_status w.state f))
    where
      go : (t : Bool) → Shape w (frames (cond t [] []) [] false) (core w.state) w.rx w.tx
      go true = is_still
      go false = is_still
  refused_still (show side) n = none_arrives (show side) w (refused n) _ _ _ refl is_still

  refused_or_lem : (c : Call) (n : ℕ) (d : Did) → (n ≡ 0 → Shaped w c d) → Shaped w c (refused_or n d w)
  refused_or_lem c n d = or_refused (Shaped w c) n d w (refused_still c n)

-- ---- every call

pub view : (c : Call) (w : World) → Shaped w c (step c w)
unfolding step checks calls.not_refused outcome settled_by rx_after tx_after settled said arrived sent added handed_out restarts writes clears break_state key_state
view (create m) w = refused_or_lem w (create m) _ _ (λ e. none_arrives (create m) w done _ _ _ refl (is_begun m))
view (on reset) w = refused_or_lem w (on reset) _ _ (λ e. none_arrives (on reset) w done _ _ _ refl (is_begun w.state.margin))
view (on (write n v)) w = refused_or_lem w (on (write n v)) _ _ (λ e. let x = write_fitting n v w e in write_shape w n v x.0 x.1.1)
view (on (line_byte b)) w = refused_or_lem w (on (line_byte b)) _ _ (λ e. line_shape w (fitting (line_byte b) w e).0 b)
view (on line_break) w = refused_or_lem w (on line_break) _ _ (λ e. none_arrives (on line_break) w done _ _ _ refl (is_broken (fitting line_break w e).0))
view (on key) w = refused_or_lem w (on key) _ _ (λ e. none_arrives (on key) w done _ _ _ refl is_still)
view (on ask_line_byte) w = refused_or_lem w (on ask_line_byte) _ _ (λ e. none_arrives (on ask_line_byte) w _ _ _ _ refl is_still)
view (on (take_line_byte b)) w = refused_or_lem w (on (take_line_byte b)) _ _ (λ e. let x = take_fitting b w e in gone_shape w x.0 b x.1)
view (on (loop_frame f)) w =
    refused_or_lem w (on (loop_frame f)) _ _ (λ e. let x = frame_fitting f w e in frame_shape w x.0 f x.1.1)
view (show side) w = refused_or_lem w (show side) _ _ (λ e. none_arrives (show side) w _ _ _ _ refl is_still)
