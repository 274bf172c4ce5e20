-- What every call does to the notes of what happened and to the status byte under way. Assumes nothing.
use Prim.Native.Nat.{ℕ}
use native.Mathlib.Omega.{arith}
use mathlib.Core.Path.{◌≡◌, refl, sym, ap, ◌∙◌}
use mathlib.Core.Bool.{Bool, true, false, cond, ◌&&◌, and-false}
use mathlib.Core.List.{[], ◌∷◌}
use lib.Dec.{eqb}
use borrow.Author.Tests.{ne_eqb, leb-false}
use Rattle.branches.proofs.Branches.{by_cond}
use Rattle.frame.specs.Frame.{control_of, data_of, made, is_data, stripped, same_apart}
use Rattle.frame.proofs.Laws.{same_stripped, stripped_same, stripped_twice}
use Rattle.registers.specs.Writing.{written}
use Rattle.role.specs.declared.Role.{Role}
use Rattle.role.specs.declared.Order.{Order}
use Rattle.role.specs.declared.Order.TheVariants.{Unlisten, Listen, Untalk, Talk, Clear, Deselect, Enable, Disable, Local, Unassign, Nothing}
use Rattle.role.specs.Role.{addressed, is_active}
use Rattle.role.specs.Commands.{merely_addressed, changed_role, obeyed_role}
use Rattle.store.specs.Ring.{full}
use Rattle.status.specs.declared.Events.{Events}
use Rattle.status.specs.Status.{showed, stays, acknowledged}
use Rattle.reading.specs.Reading.{Sent, none, one}
use Rattle.reading.specs.Received.{Received}
use Rattle.sending.specs.Sending.{given_of, send_held}
use Rattle.state.specs.declared.State.{State}
use Rattle.state.specs.Outcome.{Outcome}
use Rattle.std.specs.Prelude.{Option, Some, None}
use Rattle.state.specs.declared.Next.{Next}
use Rattle.state.specs.declared.Next.TheVariants as out
use Rattle.answers.specs.declared.Answer.TheVariants.{Frame}
use Rattle.answers.specs.Answers.{Said, said, refused}
use Rattle.state.specs.Conditions.{settled, break_state, key_state}
use Rattle.state.specs.Conditions as status
use Rattle.line.specs.HoldingOff.{is_go_or_stop, flowed, lost_state, stored_with, line_state, resumed, set_afresh, after_write, next_out, gone}
use Rattle.loopside.specs.LoopToLine.{added_state}
use Rattle.talker.specs.Obeying.{obeyed_talker}
use Rattle.talker.specs.UnderWay.{talking}
use Rattle.loopside.specs.Sends.{rule_of, removed_state, send_state, send_from, send_status, ended}
use Rattle.loopside.specs.Frames.{order_in, obeyed, frame_taken, device_clear}
use Rattle.role.specs.Orders.{is_clear}
use Rattle.bridge.specs.Calls.{Call, on, create, reset, write, line_byte, line_break, key, ask_line_byte, take_line_byte}
use Rattle.bridge.specs.Calls.{loop_frame, show, World, Did, outcome, settled_by, refused_or, step}
use Rattle.bridge.specs.Calls as calls
use Rattle.laws.specs.Observers.{taken, data_frame, asks_status, status_sent, restarts, clears, empties}
use Rattle.laws.specs.StatusWay.{ends_way, status_back}
use Rattle.laws.specs.Events.{Event, broken, overrun, pressed, noted}
use Rattle.runs.proofs.Refusals.{or_refused}
use Rattle.runs.proofs.Alike.{same_either}
use Rattle.runs.proofs.Answered.{status_frame}
use Rattle.role.proofs.Clears.{clear_order}
use Rattle.laws.proofs.Ways as ways
use Rattle.runs.proofs.FrameKinds.{address_high}
use Rattle.runs.proofs.Steps.{answer, after}

-- the part of a state that this is about
pub record Part : Type 0 where
  pub talker : ℕ
  pub frame : ℕ
  pub seen : Events
  pub again : Events

abbrev pub part : State → Part
part s = record { talker = s.talker.role.phase; frame = s.talker.under.frame; seen = s.notes.seen; again = s.notes.again }

-- what is noted there is noted here
abbrev pub Keeps : Events → Events → Type 0
Keeps x y = (e : Event) → noted e x ≡ true → noted e y ≡ true

-- ---- the kinds of change

-- the frame under way stays so, and no note is taken away
pub record Left (s : State) (p : Part) : Type 0 where
  pub talker : p.talker ≡ s.talker.role.phase
  pub frame : p.frame ≡ s.talker.under.frame
  pub seen : Keeps s.notes.seen p.seen
  pub again : Keeps s.notes.again p.again

pub data Kind (c : Call) (w : World) (a : Said) (p : Part) : Type 0 where
  goes_on : status_sent c w a ≡ [] → ends_way c a ≡ false → Left w.state p → Kind c w a p
  -- no status byte is under way any more, and none came back
  idles : eqb p.talker 3 ≡ false → Keeps w.state.notes.seen p.seen → Kind c w a p
  sends : status_sent c w a ≡ stripped p.frame ∷ [] → Keeps w.state.notes.seen p.seen → Kind c w a p
  -- the status byte under way came back
  returns : eqb w.state.talker.role.phase 3 ≡ true → status_back (stripped w.state.talker.under.frame ∷ []) c a ≡ true → eqb p.talker 3 ≡ false →
      ((e : Event) → noted e w.state.notes.seen ≡ true → noted e w.state.notes.again ≡ true → noted e p.seen ≡ true) → Kind c w a p
  begins : empties c w a ≡ true → Kind c w a p

-- ---- frames

keeps : (x : Events) → Keeps x x
keeps x e h = h

same : (s : State) (p : Part) → p ≡ part s → Left s p
same s p e =
    record {
      talker = ap (λ x. x.talker) e;
      frame = ap (λ x. x.frame) e;
      seen = λ k h. ap (λ x. noted k x.seen) e ∙ h;
      again = λ k h. ap (λ x. noted k x.again) e ∙ h;
    }

-- one more note
abbrev noting_of : Event → Events → Events
noting_of broken x = record { brk = true; overrun = x.overrun; key = x.key }
noting_of overrun x = record { brk = x.brk; overrun = true; key = x.key }
noting_of pressed x = record { brk = x.brk; overrun = x.overrun; key = true }

noting : (e : Event) (x : Events) → Keeps x (noting_of e x)
noting broken x broken h = refl
noting broken x overrun h = h
noting broken x pressed h = h
noting overrun x broken h = h
noting overrun x overrun h = refl
noting overrun x pressed h = h
noting pressed x broken h = h
noting pressed x overrun h = h
noting pressed x pressed h = refl

stays_true : (set shown again : Bool) → set ≡ true → again ≡ true → stays set shown again ≡ true
stays_true true true true p q = refl
stays_true true false true p q = refl
stays_true true shown false p q = cc
stays_true false shown again p q = cc

still_noted : (x y : Events) (d : ℕ) (e : Event) → noted e x ≡ true → noted e y ≡ true → noted e (acknowledged x y d) ≡ true
still_noted x y d broken p q = stays_true x.brk (showed d 16) y.brk p q
still_noted x y d overrun p q = stays_true x.overrun (showed d 32) y.overrun p q
still_noted x y d pressed p q = stays_true x.key (showed d 128) y.key p q

-- a command leaves an active talker merely addressed, and no order makes one active
merely : (r : Role) → eqb (merely_addressed r).phase 3 ≡ false
unfolding merely_addressed
merely r = by_cond (λ (t : ℕ). eqb t 3 ≡ false) (is_active r) addressed r.phase (λ _. refl)
    (λ e. ne_eqb r.phase 3 (λ h. omega (arith, leb-false 2 r.phase e)))

obeyed_idle : (r : Role) (o : Order) → eqb (obeyed_role r o).phase 3 ≡ false
unfolding obeyed_role changed_role
obeyed_idle r Unlisten = merely r
obeyed_idle r Listen = refl
obeyed_idle r Untalk = refl
obeyed_idle r Talk = refl
obeyed_idle r Clear = merely r
obeyed_idle r Deselect = refl
obeyed_idle r Enable = merely r
obeyed_idle r Disable = merely r
obeyed_idle r Local = merely r
obeyed_idle r Unassign = merely r
obeyed_idle r Nothing = merely r

module _ (w : World) (f : ℕ) where
  abbrev FrameKind : Outcome → Type 0
  FrameKind o = Kind (on (loop_frame f)) w (said o.answer) (part o.state)

  send_kind : FrameKind (send_from w.state w.rx)
  unfolding send_from send_state ended talking removed_state resumed
  send_kind = go (send_held (rule_of w.state.regs) w.rx w.state.rx)
    where
      go : (x : Sent Received ℕ) → FrameKind (send_state w.state (removed_state w.state w.rx) (given_of x))
      go (none r) = idles refl (keeps _)
      go (one g r) = idles refl (keeps _)

  -- the status byte under way came back
  back_kind : ways.Returning w.state f → same_apart f w.state.talker.under.frame ≡ true →
      status_back (stripped w.state.talker.under.frame ∷ []) (on (loop_frame f)) (said (Frame (made 5 64))) ≡ true
  unfolding status_back said
  back_kind r m =
      λ i. r.isdata i && stripped_same f (stripped w.state.talker.under.frame) (same_stripped f _ m ∙ sym (stripped_twice w.state.talker.under.frame)) i

  -- no active talker
  off : ways.Arriving w.state f → eqb w.state.talker.role.phase 3 ≡ false
  off r = ne_eqb w.state.talker.role.phase 3 (λ h. omega (arith, leb-false 2 w.state.talker.role.phase r.idle))

  clear : ways.Commanding f → is_clear (order_in w.state f) ≡ true → empties (on (loop_frame f)) w (said (Frame f)) ≡ true
  unfolding restarts clears device_clear said
  clear r e = (λ i. r.four i && sym (clear_order 31 w.state.talker.role (data_of f)) i) ∙ e

  -- a frame that is neither data nor a command, and does not ask for status, leaves what is under way
  on_kind : (o : Outcome) → is_data f ≡ false → eqb (control_of f) 4 ≡ false → asks_status w.state f ≡ false → part o.state ≡ part w.state → FrameKind o
  unfolding ends_way status_sent
  on_kind o D C e p =
      goes_on (λ i. cond (e i) (data_frame (said o.answer)) []) (simp (D, C) (and-false (taken (said o.answer)))) (same w.state (part o.state) p)

  ready_kind : (o : Outcome) → ways.Readying f → (eqb (data_of f) 97 && eqb w.state.talker.role.phase 1) ≡ false → part o.state ≡ part w.state →
      FrameKind o
  unfolding asks_status
  ready_kind o r n = on_kind o r.isdata r.four (λ i. r.five i && n i)

  frame_way : (o : Outcome) → ways.Way w.state w.rx f o → FrameKind o
  unfolding ended talking obeyed obeyed_talker added_state send_status status.after_status status.after_status_back status_sent asks_status
  frame_way o (ways.is_next r m k e) = send_kind
  frame_way o (ways.is_back r m k) =
      returns k (back_kind r m) refl (still_noted w.state.notes.seen w.state.notes.again (data_of w.state.talker.under.frame))
  frame_way o (ways.is_last r m k e) = idles refl (keeps _)
  frame_way o (ways.is_damaged r m) = idles refl (keeps _)
  frame_way o (ways.is_stored r l) = idles (off r) (keeps _)
  frame_way o (ways.is_passed r l) = idles (off r) (keeps _)
  frame_way o (ways.is_cleared r c) = begins (clear r c)
  frame_way o (ways.is_obeyed r c) = idles (obeyed_idle w.state.talker.role (order_in w.state f)) (keeps _)
  frame_way o (ways.is_assigned r a) =
      ready_kind o r (λ i. ne_eqb (data_of f) 97 (address_high w.state.talker.role (data_of f) 97 (omega arith) a) i && eqb w.state.talker.role.phase 1) refl
  frame_way o (ways.is_send_asked r a x) = send_kind
  frame_way o (ways.is_told r a x y) =
      sends ((λ i. cond (r.five i && y i) (data_frame (said (send_status w.state).answer)) []) ∙ status_frame w.state) (keeps _)
  frame_way o (ways.is_finishing r a x y z) = ready_kind o r y refl
  frame_way o (ways.is_ready r a x y z) = ready_kind o r y refl
  frame_way o (ways.is_identified r) = on_kind o r.isdata r.four (λ i. r.five i && (eqb (data_of f) 97 && eqb w.state.talker.role.phase 1)) refl

  frame_kind : Kind (on (loop_frame f)) w (calls.not_refused (on (loop_frame f)) w).said (part (calls.not_refused (on (loop_frame f)) w).world.state)
  unfolding calls.not_refused outcome settled_by settled
  frame_kind = by_clear (device_clear w.state f) (frame_way o (ways.way w.state w.rx f))
    where
      o : Outcome
      o = frame_taken w.state w.rx f

      by_clear : (t : Bool) → FrameKind o → Kind (on (loop_frame f)) w (said o.answer) (part (cond t o.state (settled w.state o.state)))
      by_clear true x = x
      by_clear false x = x

-- ---- every call

line_left : (s : State) (b : ℕ) → Left s (part (line_state s b))
unfolding line_state flowed lost_state stored_with
line_left s b =
    by_cond (λ (t : State). Left s (part t)) (is_go_or_stop s.regs b) _ _ (λ _. same s _ refl)
    (λ _. by_cond (λ (t : State). Left s (part t)) (full s.rx) _ _
    (λ _. record { talker = refl; frame = refl; seen = noting overrun s.notes.seen; again = noting overrun s.notes.again })
    (λ _. same s _ refl))

gone_left : (s : State) (o : Option Next) → Left s (part (gone s o))
unfolding gone
gone_left s (Some (out.Own b)) = same s _ refl
gone_left s (Some (out.Held b)) = same s _ refl
gone_left s None = same s _ refl

write_left : (s : State) (n v : ℕ) → Left s (part (after_write s n (written s.regs n v)))
unfolding after_write set_afresh
write_left s n v = by_cond (λ (t : State). Left s (part t)) (eqb n 11) _ _ (λ _. same s _ refl) (λ _. same s _ refl)

refused_kind : (c : Call) (w : World) (n : ℕ) → Kind c w (refused n) (part w.state)
unfolding status_sent ends_way restarts
refused_kind (create m) w n = goes_on refl refl (same _ _ refl)
refused_kind (on reset) w n = goes_on refl refl (same _ _ refl)
refused_kind (on (write k v)) w n = goes_on refl refl (same _ _ refl)
refused_kind (on (line_byte b)) w n = goes_on refl refl (same _ _ refl)
refused_kind (on line_break) w n = goes_on refl refl (same _ _ refl)
refused_kind (on key) w n = goes_on refl refl (same _ _ refl)
refused_kind (on ask_line_byte) w n = goes_on refl refl (same _ _ refl)
refused_kind (on (take_line_byte b)) w n = goes_on refl refl (same _ _ refl)
refused_kind (on (loop_frame f)) w n = goes_on (same_either (asks_status w.state f) []) refl (same _ _ refl)
refused_kind (show side) w n = goes_on refl refl (same _ _ refl)

abbrev Did-kind : Call → World → Did → Type 0
Did-kind c w d = Kind c w d.said (part d.world.state)

refused_or_lem : (c : Call) (w : World) (n : ℕ) (d : Did) → Did-kind c w d → Did-kind c w (refused_or n d w)
refused_or_lem c w n d k = or_refused (Did-kind c w) n d w (refused_kind c w n) (λ _. k)

pub kind : (c : Call) (w : World) → Kind c w (answer c w) (part (after c w).state)
unfolding step calls.not_refused outcome settled_by settled said status_sent ends_way restarts break_state key_state
kind (create m) w = refused_or_lem (create m) w _ _ (begins refl)
kind (on reset) w = refused_or_lem (on reset) w _ _ (begins refl)
kind (on (write n v)) w = refused_or_lem (on (write n v)) w _ _ (goes_on refl refl (write_left w.state n v))
kind (on (line_byte b)) w = refused_or_lem (on (line_byte b)) w _ _ (goes_on refl refl (line_left w.state b))
kind (on line_break) w =
    refused_or_lem (on line_break) w _ _
    (goes_on refl refl (record { talker = refl; frame = refl; seen = noting broken w.state.notes.seen; again = noting broken w.state.notes.again }))
kind (on key) w =
    refused_or_lem (on key) w _ _
    (goes_on refl refl (record { talker = refl; frame = refl; seen = noting pressed w.state.notes.seen; again = noting pressed w.state.notes.again }))
kind (on ask_line_byte) w = refused_or_lem (on ask_line_byte) w _ _ (goes_on refl refl (same _ _ refl))
kind (on (take_line_byte b)) w = refused_or_lem (on (take_line_byte b)) w _ _ (goes_on refl refl (gone_left w.state (next_out w.state w.tx)))
kind (on (loop_frame f)) w = refused_or_lem (on (loop_frame f)) w _ _ (frame_kind w f)
kind (show side) w = refused_or_lem (show side) w _ _ (goes_on refl refl (same _ _ refl))
