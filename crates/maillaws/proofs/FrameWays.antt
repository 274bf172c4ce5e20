-- What every loop frame does to a mailbox, one case for each way out, with the conditions that lead to it and the outcome that it leaves: the
-- only walk of a frame's conditions that knows all of them. Assumes nothing.
use Prim.Native.Nat.{ℕ, ◌+◌}
use mathlib.Core.Path.{◌≡◌}
use mathlib.Core.Bool.{true, false, ◌&&◌}
use mathlib.Core.List.{List}
use lib.Dec.{eqb}
use Rattle.branches.proofs.Branches.{by_cond}
use Rattle.frame.specs.Frame.{control_of, data_of, made, is_data, same_apart}
use Rattle.role.specs.declared.Ready.{Ready}
use Rattle.role.specs.Role.{is_active}
use Rattle.role.specs.Orders.{order_of}
use Rattle.role.specs.ReadyFrames.{gives_address, ready_of}
use Rattle.talker.specs.declared.Return.{Return}
use Rattle.talker.specs.Obeying.{obeyed_talker}
use Rattle.talker.specs.Readied.{assigned_talker, finishing_talker}
use Rattle.talker.specs.Returning.{return_of}
use Rattle.way.specs.Way.{empty_way, told}
use Rattle.news.specs.News as news
use Rattle.mailstate.specs.declared.State.{State}
use Rattle.mailstate.specs.Outcome.{Outcome}
use Rattle.mailstate.specs.State.{with_to_bus, with_to_loop, with_talker, with_hold, with_response, no_hold}
use Rattle.mailloop.specs.Sends.{serviced, ended, send_waiting, send_id, send_accessory, send_status, send_next}
use Rattle.mailloop.specs.Messages.{passed, home, clears, response_after, hold_after, command_state, command, released, identities, readied, ready}
use Rattle.mailloop.specs.Messages.{identify, holds_back, kept, heard, judged, data_taken, frame_taken}

-- a data frame that is a return, one that is not, a command, a ready frame, and any other
pub record Returning (s : State) (f : ℕ) : Type 0 where
  pub isdata : is_data f ≡ true
  pub active : is_active s.talker.role ≡ true

pub record Arriving (s : State) (f : ℕ) : Type 0 where
  pub isdata : is_data f ≡ true
  pub idle : is_active s.talker.role ≡ false

pub record Commanding (f : ℕ) : Type 0 where
  pub isdata : is_data f ≡ false
  pub four : eqb (control_of f) 4 ≡ true

pub record Readying (f : ℕ) : Type 0 where
  pub isdata : is_data f ≡ false
  pub four : eqb (control_of f) 4 ≡ false
  pub five : eqb (control_of f) 5 ≡ true

pub record Identifying (f : ℕ) : Type 0 where
  pub isdata : is_data f ≡ false
  pub four : eqb (control_of f) 4 ≡ false
  pub five : eqb (control_of f) 5 ≡ false

-- a return that is unchanged, of a data frame that was not to be the last
pub record Going (s : State) (f : ℕ) : Type 0 where
  pub back : Returning s f
  pub same : same_apart f s.talker.under.frame ≡ true
  pub notstatus : eqb s.talker.role.phase 3 ≡ false
  pub more : s.talker.under.finishing ≡ false

-- a ready frame that releases no frame and gives no address
pub record Asking (s : State) (f : ℕ) : Type 0 where
  pub readying : Readying f
  pub unheld : (eqb (data_of f) 66 && s.hold.held) ≡ false
  pub noaddress : gives_address s.talker.role (data_of f) ≡ false

-- asked of an addressed talker, or not
abbrev pub asked : State → ℕ → ℕ → Type 0
asked s f n = (eqb (data_of f) n && eqb s.talker.role.phase 1) ≡ true

abbrev pub not_asked : State → ℕ → ℕ → Type 0
not_asked s f n = (eqb (data_of f) n && eqb s.talker.role.phase 1) ≡ false

-- the state that a command with the data byte d makes of one in which it has cleared what it clears
abbrev pub commanded_in : State → ℕ → State → State
commanded_in s d t =
    with_response (with_hold (with_talker t (obeyed_talker s.talker (order_of home s.talker.role d))) (no_hold (hold_after s d))) (response_after s d)

pub data Way (s : State) (cells : List ℕ) (f : ℕ) : Outcome → Type 0 where
  -- returns: the next that waits, the next of the ID, the status byte back, the last frame of all, damage
  is_next : Going s f → eqb s.source 0 ≡ true → Way s cells f (send_waiting s cells)
  is_next_id : Going s f → eqb s.source 0 ≡ false → Way s cells f (send_id s s.source)
  is_back : Returning s f → same_apart f s.talker.under.frame ≡ true → eqb s.talker.role.phase 3 ≡ true →
      Way s cells f (ended (with_to_loop s (told s.toloop (news.returned s.toloop.news (data_of s.talker.under.frame)))) 64)
  is_last : Returning s f → same_apart f s.talker.under.frame ≡ true → eqb s.talker.role.phase 3 ≡ false → s.talker.under.finishing ≡ true →
      Way s cells f (ended s 64)
  is_damaged : Returning s f → same_apart f s.talker.under.frame ≡ false → Way s cells f (ended s 65)
  -- other data frames: held back by a listener, kept by it, or only passed
  is_held : Arriving s f → s.talker.role.listener ≡ true → holds_back s ≡ true →
      Way s cells f (passed (with_hold (kept s) (record { enabled = true; held = true; frame = f })) (made 5 66))
  is_heard : Arriving s f → s.talker.role.listener ≡ true → holds_back s ≡ false → Way s cells f (passed (kept s) (serviced s f))
  is_passed : Arriving s f → s.talker.role.listener ≡ false → Way s cells f (passed s (serviced s f))
  -- commands: a device clear, and any other
  is_cleared : Commanding f → clears s (data_of f) ≡ true → Way s cells f (passed (commanded_in s (data_of f) (with_to_bus s (empty_way s.tobus.ring.cap))) f)
  is_obeyed : Commanding f → clears s (data_of f) ≡ false → Way s cells f (passed (commanded_in s (data_of f) s) f)
  -- ready frames: one that releases, an address, send data, send status, finish, the two IDs, and any other
  is_released : Readying f → (eqb (data_of f) 66 && s.hold.held) ≡ true → Way s cells f (released s)
  is_assigned : Readying f → (eqb (data_of f) 66 && s.hold.held) ≡ false → gives_address s.talker.role (data_of f) ≡ true →
      Way s cells f (record { state = with_talker s (assigned_talker s.talker (data_of f)); answer = (passed s (made 5 (data_of f + 1))).answer })
  is_send_asked : Asking s f → asked s f 96 → Way s cells f (send_waiting s cells)
  is_told : Asking s f → not_asked s f 96 → asked s f 97 → Way s cells f (send_status s)
  is_finishing : Asking s f → not_asked s f 96 → not_asked s f 97 → (eqb (data_of f) 66 && eqb s.talker.role.phase 2) ≡ true →
      Way s cells f (passed (with_talker s (finishing_talker s.talker)) f)
  is_id_asked : Asking s f → not_asked s f 96 → not_asked s f 97 → (eqb (data_of f) 66 && eqb s.talker.role.phase 2) ≡ false → asked s f 98 →
      Way s cells f (send_id s 0)
  is_accessory : Asking s f → not_asked s f 96 → not_asked s f 97 → (eqb (data_of f) 66 && eqb s.talker.role.phase 2) ≡ false → not_asked s f 98 → asked s f 99 →
      Way s cells f (send_accessory s)
  is_ready : Asking s f → not_asked s f 96 → not_asked s f 97 → (eqb (data_of f) 66 && eqb s.talker.role.phase 2) ≡ false → not_asked s f 98 → not_asked s f 99 →
      Way s cells f (passed s f)
  is_identified : Identifying f → Way s cells f (identify s f)

module _ (s : State) (cells : List ℕ) (f : ℕ) where
  abbrev W : Outcome → Type 0
  W = Way s cells f

  return_way : Returning s f → W (judged s cells (return_of s.talker f))
  unfolding judged return_of send_next
  return_way r =
      by_cond J (same_apart f s.talker.under.frame) _ _
      (λ m. by_cond J (eqb s.talker.role.phase 3) _ _ (λ k. is_back r m k)
      (λ k. by_cond J s.talker.under.finishing _ _ (λ e. is_last r m k e)
      (λ e. by_cond W (eqb s.source 0) _ _ (λ z. is_next (record { back = r; same = m; notstatus = k; more = e }) z)
      (λ z. is_next_id (record { back = r; same = m; notstatus = k; more = e }) z))))
      (λ m. is_damaged r m)
    where
      J : Return → Type 0
      J k = W (judged s cells k)

  ready_way : Readying f → W (ready s cells f)
  unfolding ready readied ready_of identities
  ready_way r =
      by_cond W (eqb (data_of f) 66 && s.hold.held) _ _ (λ h. is_released r h)
      (λ h. by_cond R (gives_address s.talker.role (data_of f)) _ _ (λ a. is_assigned r h a)
      (λ a. by_cond R (eqb (data_of f) 96 && eqb s.talker.role.phase 1) _ _ (λ x. is_send_asked (q h a) x)
      (λ x. by_cond R (eqb (data_of f) 97 && eqb s.talker.role.phase 1) _ _ (λ y. is_told (q h a) x y)
      (λ y. by_cond R (eqb (data_of f) 66 && eqb s.talker.role.phase 2) _ _ (λ z. is_finishing (q h a) x y z)
      (λ z. by_cond W (eqb (data_of f) 98 && eqb s.talker.role.phase 1) _ _ (λ u. is_id_asked (q h a) x y z u)
      (λ u. by_cond W (eqb (data_of f) 99 && eqb s.talker.role.phase 1) _ _ (λ v. is_accessory (q h a) x y z u v) (λ v. is_ready (q h a) x y z u v)))))))
    where
      R : Ready → Type 0
      R k = W (readied s cells f k)

      q : (eqb (data_of f) 66 && s.hold.held) ≡ false → gives_address s.talker.role (data_of f) ≡ false → Asking s f
      q h a = record { readying = r; unheld = h; noaddress = a }

  -- every frame
  pub way : W (frame_taken s cells f)
  unfolding frame_taken data_taken heard command command_state
  way =
      by_cond W (is_data f) _ _
      (λ D. by_cond W (is_active s.talker.role) _ _
      (λ A. return_way (record { isdata = D; active = A }))
      (λ A. by_cond W s.talker.role.listener _ _
      (λ l. by_cond W (holds_back s) _ _ (λ h. is_held (record { isdata = D; idle = A }) l h) (λ h. is_heard (record { isdata = D; idle = A }) l h))
      (λ l. is_passed (record { isdata = D; idle = A }) l)))
      (λ D. by_cond W (eqb (control_of f) 4) _ _
      (λ C. by_cond (λ (t : State). W (passed (commanded_in s (data_of f) t) f)) (clears s (data_of f)) _ _
      (λ c. is_cleared (record { isdata = D; four = C }) c) (λ c. is_obeyed (record { isdata = D; four = C }) c))
      (λ C. by_cond W (eqb (control_of f) 5) _ _
      (λ R. ready_way (record { isdata = D; four = C; five = R }))
      (λ R. is_identified (record { isdata = D; four = C; five = R }))))
