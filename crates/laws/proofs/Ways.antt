-- What every loop frame does, one case for each way out, with the conditions that lead to it and the outcome that it leaves: the only walk
-- of a frame's conditions that knows all of them. Assumes nothing.
use Prim.Native.Nat.{ℕ, ◌+◌}
use mathlib.Core.Path.{◌≡◌}
use mathlib.Core.Bool.{true, false, ◌&&◌}
use mathlib.Core.List.{List}
use lib.Dec.{eqb}
use Rattle.branches.proofs.Branches.{by_cond}
use Rattle.frame.specs.Frame.{control_of, data_of, made, is_data, same_apart}
use Rattle.role.specs.declared.Ready.{Ready}
use Rattle.role.specs.Role.{is_active}
use Rattle.role.specs.ReadyFrames.{gives_address, ready_of}
use Rattle.talker.specs.declared.Return.{Return}
use Rattle.talker.specs.Readied.{assigned_talker, finishing_talker}
use Rattle.talker.specs.Returning.{return_of}
use Rattle.state.specs.declared.State.{State}
use Rattle.state.specs.Outcome.{Outcome}
use Rattle.state.specs.State.{with_talker}
use Rattle.state.specs.Conditions.{serviced, after_status_back}
use Rattle.loopside.specs.LoopToLine.{added_state}
use Rattle.loopside.specs.Sends.{send_from, send_status, ended}
use Rattle.loopside.specs.Frames.{passed, order_in, obeyed, cleared, command_state, command}
use Rattle.role.specs.Orders.{is_clear}
use Rattle.loopside.specs.Frames.{readied, ready, judged, returned, data_passed, identify, frame_taken}

-- a data frame that is a return, one that is not, a command, a ready frame, and any other
pub record Returning (s : State) (f : ℕ) : Type 0 where
  pub isdata : is_data f ≡ true
  pub active : is_active s.talker.role ≡ true

pub record Arriving (s : State) (f : ℕ) : Type 0 where
  pub isdata : is_data f ≡ true
  pub idle : is_active s.talker.role ≡ false

pub record Commanding (f : ℕ) : Type 0 where
  pub isdata : is_data f ≡ false
  pub four : eqb (control_of f) 4 ≡ true

pub record Readying (f : ℕ) : Type 0 where
  pub isdata : is_data f ≡ false
  pub four : eqb (control_of f) 4 ≡ false
  pub five : eqb (control_of f) 5 ≡ true

pub record Identifying (f : ℕ) : Type 0 where
  pub isdata : is_data f ≡ false
  pub four : eqb (control_of f) 4 ≡ false
  pub five : eqb (control_of f) 5 ≡ false

pub data Way (s : State) (rx : List ℕ) (f : ℕ) : Outcome → Type 0 where
  -- returns: the next frame, the status byte back, the last frame of all, damage
  is_next : Returning s f → same_apart f s.talker.under.frame ≡ true → eqb s.talker.role.phase 3 ≡ false → s.talker.under.finishing ≡ false → Way s rx f (send_from s rx)
  is_back : Returning s f → same_apart f s.talker.under.frame ≡ true → eqb s.talker.role.phase 3 ≡ true →
      Way s rx f (ended (after_status_back s (data_of s.talker.under.frame)) 64)
  is_last : Returning s f → same_apart f s.talker.under.frame ≡ true → eqb s.talker.role.phase 3 ≡ false → s.talker.under.finishing ≡ true → Way s rx f (ended s 64)
  is_damaged : Returning s f → same_apart f s.talker.under.frame ≡ false → Way s rx f (ended s 65)
  -- other data frames: stored by a listener, or only passed
  is_stored : Arriving s f → s.talker.role.listener ≡ true → Way s rx f (passed (added_state s f) (serviced s f))
  is_passed : Arriving s f → s.talker.role.listener ≡ false → Way s rx f (passed s (serviced s f))
  -- commands: a device clear, and any other
  is_cleared : Commanding f → is_clear (order_in s f) ≡ true → Way s rx f (passed (cleared (obeyed s (order_in s f))) f)
  is_obeyed : Commanding f → is_clear (order_in s f) ≡ false → Way s rx f (passed (obeyed s (order_in s f)) f)
  -- ready frames: an address, send data, send status, finish, and any other
  is_assigned : Readying f → gives_address s.talker.role (data_of f) ≡ true →
      Way s rx f (record { state = with_talker s (assigned_talker s.talker (data_of f)); answer = (passed s (made 5 (data_of f + 1))).answer })
  is_send_asked : Readying f → gives_address s.talker.role (data_of f) ≡ false → (eqb (data_of f) 96 && eqb s.talker.role.phase 1) ≡ true → Way s rx f (send_from s rx)
  is_told : Readying f → gives_address s.talker.role (data_of f) ≡ false → (eqb (data_of f) 96 && eqb s.talker.role.phase 1) ≡ false →
      (eqb (data_of f) 97 && eqb s.talker.role.phase 1) ≡ true → Way s rx f (send_status s)
  is_finishing : Readying f → gives_address s.talker.role (data_of f) ≡ false → (eqb (data_of f) 96 && eqb s.talker.role.phase 1) ≡ false →
      (eqb (data_of f) 97 && eqb s.talker.role.phase 1) ≡ false → (eqb (data_of f) 66 && eqb s.talker.role.phase 2) ≡ true → Way s rx f (passed (with_talker s (finishing_talker s.talker)) f)
  is_ready : Readying f → gives_address s.talker.role (data_of f) ≡ false → (eqb (data_of f) 96 && eqb s.talker.role.phase 1) ≡ false →
      (eqb (data_of f) 97 && eqb s.talker.role.phase 1) ≡ false → (eqb (data_of f) 66 && eqb s.talker.role.phase 2) ≡ false → Way s rx f (passed s f)
  is_identified : Identifying f → Way s rx f (passed s (serviced s f))

module _ (s : State) (rx : List ℕ) (f : ℕ) where
  abbrev W : Outcome → Type 0
  W = Way s rx f

  return_way : Returning s f → W (returned s rx f)
  unfolding returned judged return_of
  return_way r =
      by_cond J (same_apart f s.talker.under.frame) _ _
      (λ m. by_cond J (eqb s.talker.role.phase 3) _ _ (λ k. is_back r m k)
      (λ k. by_cond J s.talker.under.finishing _ _ (λ e. is_last r m k e) (λ e. is_next r m k e)))
      (λ m. is_damaged r m)
    where
      J : Return → Type 0
      J k = W (judged s rx k)

  ready_way : Readying f → W (ready s rx f)
  unfolding ready readied ready_of
  ready_way r =
      by_cond R (gives_address s.talker.role (data_of f)) _ _ (λ a. is_assigned r a)
      (λ a. by_cond R (eqb (data_of f) 96 && eqb s.talker.role.phase 1) _ _ (λ x. is_send_asked r a x)
      (λ x. by_cond R (eqb (data_of f) 97 && eqb s.talker.role.phase 1) _ _ (λ y. is_told r a x y)
      (λ y. by_cond R (eqb (data_of f) 66 && eqb s.talker.role.phase 2) _ _ (λ z. is_finishing r a x y z) (λ z. is_ready r a x y z))))
    where
      R : Ready → Type 0
      R k = W (readied s rx f k)

  -- every frame
  pub way : W (frame_taken s rx f)
  unfolding frame_taken data_passed command command_state identify
  way =
      by_cond W (is_data f) _ _
      (λ D. by_cond W (is_active s.talker.role) _ _
      (λ A. return_way (record { isdata = D; active = A }))
      (λ A. by_cond (λ (t : State). W (passed t (serviced s f))) s.talker.role.listener _ _
      (λ l. is_stored (record { isdata = D; idle = A }) l) (λ l. is_passed (record { isdata = D; idle = A }) l)))
      (λ D. by_cond W (eqb (control_of f) 4) _ _
      (λ C. by_cond (λ (t : State). W (passed t f)) (is_clear (order_in s f)) _ _
      (λ c. is_cleared (record { isdata = D; four = C }) c) (λ c. is_obeyed (record { isdata = D; four = C }) c))
      (λ C. by_cond W (eqb (control_of f) 5) _ _
      (λ R. ready_way (record { isdata = D; four = C; five = R }))
      (λ R. is_identified (record { isdata = D; four = C; five = R }))))
