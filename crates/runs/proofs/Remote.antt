-- How the remote flags go at a frame. Assumes nothing.
use Prim.Native.Nat.{ℕ}
use native.Mathlib.Omega.{arith}
use mathlib.Core.Path.{◌≡◌, refl, sym, ◌∙◌}
use mathlib.Core.Bool.{true, false, cond}
use lib.Dec.{eqb}
use borrow.Author.Tests.{ne_eqb, ltb-true}
use Rattle.frame.specs.Frame.{control_of, data_of, is_data}
use Rattle.role.specs.declared.remote.Remote.{Remote}
use Rattle.std.specs.Prelude.{Option, Some, None}
use Rattle.sending.specs.Sending.{given_of, send_held}
use Rattle.state.specs.Outcome.{Outcome}
use Rattle.state.specs.Conditions.{after_status, after_status_back}
use Rattle.line.specs.HoldingOff.{resumed}
use Rattle.loopside.specs.LoopToLine.{added_state}
use Rattle.loopside.specs.Sends.{rule_of, ended, removed_state, send_state, send_from, send_status}
use Rattle.loopside.specs.Frames.{order_in, obeyed, cleared}
use Rattle.bridge.specs.Calls.{World}
use Rattle.laws.specs.Fitting.{Fits}
use Rattle.laws.specs.Roles.{commanded_remote, remote_by_frame}
use Rattle.laws.proofs.Ways.{Way, Commanding, is_next, is_back, is_last, is_damaged, is_stored, is_passed, is_cleared}
use Rattle.laws.proofs.Ways.{is_obeyed, is_assigned, is_send_asked, is_told, is_finishing, is_ready, is_identified}
use Rattle.runs.proofs.FrameKinds.{role_fits}
use Rattle.runs.proofs.Obeying.{obeyed_right}

module _ (w : World) (F : Fits w) (f : ℕ) where
  abbrev Right : Remote → Type 0
  Right m = m ≡ remote_by_frame f w.state.talker.role w.state.remote

  -- a frame that is no command leaves them, a data frame among these
  stays : eqb (control_of f) 4 ≡ false → (m : Remote) → m ≡ w.state.remote → Right m
  unfolding remote_by_frame
  stays n m e = e ∙ (λ i. cond (sym n i) (commanded_remote w.state.talker.role w.state.remote (data_of f)) w.state.remote)

  data_stays : is_data f ≡ true → (m : Remote) → m ≡ w.state.remote → Right m
  data_stays d = stays (ne_eqb (control_of f) 4 (λ h. omega (arith, ltb-true (control_of f) 4 d)))

  send_stays : (send_from w.state w.rx).state.remote ≡ w.state.remote
  unfolding send_from send_state ended removed_state resumed
  send_stays = go (given_of (send_held (rule_of w.state.regs) w.rx w.state.rx))
    where
      go : (g : Option ℕ) → (send_state w.state (removed_state w.state w.rx) g).state.remote ≡ w.state.remote
      go None = refl
      go (Some g) = refl

  obeys : Commanding f → Right (obeyed w.state (order_in w.state f)).remote
  unfolding obeyed remote_by_frame
  obeys q =
      (obeyed_right w.state.talker.role w.state.remote (role_fits w F).range (data_of f)).1
      ∙ (λ i. cond (sym q.four i) (commanded_remote w.state.talker.role w.state.remote (data_of f)) w.state.remote)

  pub remote_way : (o : Outcome) → Way w.state w.rx f o → Right o.state.remote
  unfolding send_status ended after_status after_status_back added_state cleared
  remote_way o (is_next q m k e) = data_stays q.isdata _ send_stays
  remote_way o (is_back q m k) = data_stays q.isdata _ refl
  remote_way o (is_last q m k e) = data_stays q.isdata _ refl
  remote_way o (is_damaged q m) = data_stays q.isdata _ refl
  remote_way o (is_stored q l) = data_stays q.isdata _ refl
  remote_way o (is_passed q l) = data_stays q.isdata _ refl
  remote_way o (is_cleared q c) = obeys q
  remote_way o (is_obeyed q c) = obeys q
  remote_way o (is_assigned q a) = stays q.four _ refl
  remote_way o (is_send_asked q a x) = stays q.four _ send_stays
  remote_way o (is_told q a x y) = stays q.four _ refl
  remote_way o (is_finishing q a x y z) = stays q.four _ refl
  remote_way o (is_ready q a x y z) = stays q.four _ refl
  remote_way o (is_identified q) = stays q.four _ refl
