-- What a loop frame does, one case for each kind, and what it is seen to be. Assumes nothing.
use Prim.Native.Nat.{ℕ, ◌+◌, ◌-◌, ◌%◌, ◌<◌}
use native.Mathlib.Omega.{arith}
use mathlib.Core.Path.{◌≡◌, refl, sym, ◌∙◌}
use mathlib.Core.Bool.{Bool, true, false, ◌&&◌, ◌||◌, not, or-false, false≢true}
use mathlib.Core.List.{List, []}
use lib.Dec.{eqb, ltb}
use lib.ListN.{length}
use borrow.Author.Tests.{eqb-true, eqb-false, eq-eqb, ne_eqb, leb-true, ltb-true, le-ltb}
use Rattle.branches.proofs.Branches.{and_left, and_right, cond_false}
use Rattle.frame.specs.Frame.{control_of, data_of, made, is_data, same_apart}
use Rattle.role.specs.declared.Role.{Role}
use Rattle.role.specs.Role.{is_active}
use Rattle.role.specs.ReadyFrames.{gives_address}
use Rattle.role.specs.RoleFit as role-fit
use Rattle.talker.specs.Readied.{assigned_talker, finishing_talker}
use Rattle.talker.proofs.FitLaws as talker-laws
use Rattle.reading.specs.Reading.{Sent, none, one}
use Rattle.reading.specs.Received.{Received}
use Rattle.sending.specs.Sending.{given_of, send_held}
use Rattle.state.specs.declared.State.{State}
use Rattle.state.specs.Outcome.{Outcome}
use Rattle.answers.specs.declared.Answer.TheVariants.{Frame}
use Rattle.state.specs.State.{with_talker}
use Rattle.answers.specs.Answers.{said}
use Rattle.state.specs.Conditions.{serviced, after_status_back}
use Rattle.state.proofs.Fits.{tests}
use Rattle.line.specs.HoldingOff.{resumed}
use Rattle.loopside.specs.LoopToLine.{added_state}
use Rattle.talker.specs.UnderWay.{talking}
use Rattle.loopside.specs.Sends.{rule_of, removed_state, send_state, send_from, send_status, ended}
use Rattle.loopside.specs.Frames.{passed, order_in, obeyed, cleared, frame_taken, device_clear}
use Rattle.role.specs.Orders.{is_clear}
use Rattle.bridge.specs.Calls.{World}
use Rattle.role.proofs.Clears.{clear_order}
use Rattle.laws.specs.Observers.{data_frame, equal_return, is_send, asks_status, passes_on}
use Rattle.laws.proofs.Ways as ways
use Rattle.runs.proofs.Shapes.{Fits, core}
use Rattle.runs.proofs.Answered.{serviced_kind}

-- what a frame is to us: a send, an asking for the status byte, one that passes, a device clear, one that a listener stores
pub record Marks (s : State) (f : ℕ) (x y p c l : Bool) : Type 0 where
  pub send : is_send s f ≡ x
  pub status : asks_status s f ≡ y
  pub passes : passes_on s f ≡ p
  pub clear : device_clear s f ≡ c
  pub adds : (is_data f && s.talker.role.listener) ≡ l

-- the state t, where x is answered: the stores, the line and the notes stay; x is a data frame only where one passes, p; what is under way
-- stays but at a data frame or command
pub record Other (s : State) (f : ℕ) (p : Bool) (t : State) (x : ℕ) : Type 0 where
  pub core : core t ≡ core s
  pub line : t.line ≡ s.line
  pub notes : t.notes ≡ s.notes
  pub answer : p ≡ false → is_data x ≡ false
  pub way : (is_data f || eqb (control_of f) 4) ≡ false → (t.talker.role.phase ≡ s.talker.role.phase) × (t.talker.under.frame ≡ s.talker.under.frame)

pub data Kind (s : State) (rx : List ℕ) (f : ℕ) : Outcome → Type 0 where
  is_sent : Marks s f true false false false false → Kind s rx f (send_from s rx)
  is_status : Marks s f false true false false false → Kind s rx f (send_status s)
  -- the status byte came back
  is_back : Marks s f false false false false false → is_data f ≡ true → Kind s rx f (ended (after_status_back s (data_of s.talker.under.frame)) 64)
  is_cleared : Marks s f false false false true false → eqb (control_of f) 4 ≡ true → Kind s rx f (passed (cleared (obeyed s (order_in s f))) f)
  -- a listener stores it
  is_kept : Marks s f false false true false true → is_data f ≡ true → s.talker.role.listener ≡ true → Kind s rx f (passed (added_state s f) (serviced s f))
  is_other : (t : State) (x : ℕ) (p : Bool) → Marks s f false false p false false → Other s f p t x → Kind s rx f (passed t x)

-- no data frame
pub no_data : (x : ℕ) → is_data x ≡ false → data_frame (said (Frame x)) ≡ []
unfolding said
no_data x e = cond_false _ _ _ e

-- a ready frame that gives an address is no other
pub address_high : (r : Role) (d n : ℕ) → n < 128 → gives_address r d ≡ true → d ≡ n → ⊥
address_high r d n h e q =
    let b : eqb (d - d % 32) 128 ≡ true = and_left _ _ (and_left _ _ e) in
    omega (arith, eqb-true (d - d % 32) 128 b)

-- what a frame is to us by its tests, and what it does
module _ (s : State) (f : ℕ) where
  abbrev asks : ℕ → Bool
  asks n = eqb (data_of f) n && eqb s.talker.role.phase 1

  data_marks : is_data f ≡ true → (a l m p e : Bool) → is_active s.talker.role ≡ a → s.talker.role.listener ≡ l → same_apart f s.talker.under.frame ≡ m →
      eqb s.talker.role.phase 2 ≡ p →
      s.talker.under.finishing ≡ e → Marks s f ((a && m) && (p && not e)) false (not a) false l
  unfolding is_send equal_return asks_status passes_on device_clear
  data_marks D a l m p e ha hl hm hp he =
      let no-5 : eqb (control_of f) 5 ≡ false = ne_eqb (control_of f) 5 (λ h. omega (arith, ltb-true (control_of f) 4 D)) in
      let no-4 : eqb (control_of f) 4 ≡ false = ne_eqb (control_of f) 4 (λ h. omega (arith, ltb-true (control_of f) 4 D)) in
      let no-id : ltb 5 (control_of f) ≡ false = le-ltb 5 (control_of f) (omega (arith, ltb-true (control_of f) 4 D)) in
      record {
        send = simp (no-5, D, ha, hm, hp, he);
        status = simp no-5;
        passes = simp (D, ha, no-id) (or-false (not a));
        clear = simp no-4;
        adds =
            simp (D, hl);
      }

  other_marks : is_data f ≡ false → (r x y i c : Bool) → eqb (control_of f) 5 ≡ r → asks 96 ≡ x → asks 97 ≡ y → ltb 5 (control_of f) ≡ i → device_clear s f ≡ c →
      Marks s f (r && x) (r && y) i c false
  unfolding is_send equal_return asks_status passes_on
  other_marks D r x y i c hr hx hy hi hc =
      record { send = simp (hr, D, hx) (or-false (r && x)); status = simp (hr, hy); passes = simp (D, hi); clear = hc; adds = simp D }

  order_marks : ways.Commanding f → (c : Bool) → is_clear (order_in s f) ≡ c → Marks s f false false false c false
  unfolding device_clear
  order_marks r c e =
      let four = eqb-true (control_of f) 4 r.four in
      other_marks r.isdata false _ _ false c (ne_eqb (control_of f) 5 (λ h. omega arith)) refl refl (le-ltb 5 (control_of f) (omega arith))
      ((λ i. r.four i && sym (clear_order 31 s.talker.role (data_of f)) i) ∙ e)

  ready_marks : ways.Readying f → (x y : Bool) → asks 96 ≡ x → asks 97 ≡ y → Marks s f x y false false false
  unfolding device_clear
  ready_marks r x y hx hy =
      other_marks r.isdata true x y false false r.five hx hy (le-ltb 5 (control_of f) (omega (arith, eqb-true (control_of f) 5 r.five)))
      (simp r.four)

  not_asked : (n : ℕ) → (data_of f ≡ n → ⊥) → asks n ≡ false
  not_asked n h = λ i. ne_eqb (data_of f) n h i && eqb s.talker.role.phase 1

  kept : (p : Bool) (x : ℕ) → (p ≡ false → is_data x ≡ false) → Other s f p s x
  kept p x e = record { core = refl; line = refl; notes = refl; answer = e; way = λ _. (refl, refl) }

  ended_other : ways.Returning s f → (d : ℕ) → d < 256 → Other s f false (ended s d).state (made 5 d)
  unfolding ended talking
  ended_other r d h =
      let on : (is_data f || eqb (control_of f) 4) ≡ true = λ i. r.isdata i || eqb (control_of f) 4 in
      record {
        core = refl;
        line = refl;
        notes = refl;
        answer = λ _. le-ltb (control_of (made 5 d)) 4 (omega arith);
        way =
            λ n. absurd (false≢true (sym n ∙ on));
      }

  module _ (R : role-fit.Fit s.talker.role) where
    -- an active talker is no listener, and sends data where it does not send status
    return_marks : ways.Returning s f → (m p e : Bool) → same_apart f s.talker.under.frame ≡ m → eqb s.talker.role.phase 2 ≡ p → s.talker.under.finishing ≡ e →
        Marks s f (m && (p && not e)) false false false false
    return_marks r m p e = data_marks r.isdata true false m p e r.active (go s.talker.role.listener refl)
      where
        go : (t : Bool) → s.talker.role.listener ≡ t → t ≡ false
        go true e = absurd (omega (arith, leb-true 2 s.talker.role.phase r.active, R.apart e))
        go false e = refl

    two : ways.Returning s f → eqb s.talker.role.phase 3 ≡ false → eqb s.talker.role.phase 2 ≡ true
    two r k = eq-eqb s.talker.role.phase 2 (omega (arith, leb-true 2 s.talker.role.phase r.active, R.phase, eqb-false s.talker.role.phase 3 k))

    frame_kind : (rx : List ℕ) (o : Outcome) → ways.Way s rx f o → Kind s rx f o
    unfolding ended obeyed
    frame_kind rx o (ways.is_next r m k e) = is_sent (return_marks r true true false m (two r k) e)
    frame_kind rx o (ways.is_back r m k) =
        is_back (return_marks r true false _ m (ne_eqb s.talker.role.phase 2 (λ h. omega (arith, eqb-true s.talker.role.phase 3 k))) refl) r.isdata
    frame_kind rx o (ways.is_last r m k e) =
        is_other (ended s 64).state (made 5 64) false (return_marks r true true true m (two r k) e) (ended_other r 64 (omega arith))
    frame_kind rx o (ways.is_damaged r m) =
        is_other (ended s 65).state (made 5 65) false (return_marks r false _ _ m refl refl) (ended_other r 65 (omega arith))
    frame_kind rx o (ways.is_stored r l) = is_kept (data_marks r.isdata false true _ _ _ r.idle l refl refl refl) r.isdata l
    frame_kind rx o (ways.is_passed r l) =
        is_other s (serviced s f) true (data_marks r.isdata false false _ _ _ r.idle l refl refl refl) (kept true _ (λ e. absurd (false≢true (sym e))))
    frame_kind rx o (ways.is_cleared r c) = is_cleared (order_marks r true c) r.four
    frame_kind rx o (ways.is_obeyed r c) =
        is_other (obeyed s (order_in s f)) f false (order_marks r false c)
        (record { core = refl; line = refl; notes = refl; answer = λ _. r.isdata; way = λ n. absurd (false≢true (sym n ∙ (λ i. r.isdata i || r.four i))) })
    frame_kind rx o (ways.is_assigned r a) =
        is_other (with_talker s (assigned_talker s.talker (data_of f))) (made 5 (data_of f + 1)) false
        (ready_marks r false false (not_asked 96 (address_high s.talker.role (data_of f) 96 (omega arith) a))
        (not_asked 97 (address_high s.talker.role (data_of f) 97 (omega arith) a)))
        (record { core = refl; line = refl; notes = refl; answer = λ _. le-ltb (control_of (made 5 (data_of f + 1))) 4 (omega arith); way = λ _. (refl, refl) })
    frame_kind rx o (ways.is_send_asked r a x) = is_sent (ready_marks r true false x (not_asked 97 (λ h. omega (arith, eqb-true (data_of f) 96 (and_left _ _ x)))))
    frame_kind rx o (ways.is_told r a x y) = is_status (ready_marks r false true x y)
    frame_kind rx o (ways.is_finishing r a x y z) =
        is_other (with_talker s (finishing_talker s.talker)) f false (ready_marks r false false x y)
        (record { core = refl; line = refl; notes = refl; answer = λ _. r.isdata; way = λ _. (refl, refl) })
    frame_kind rx o (ways.is_ready r a x y z) = is_other s f false (ready_marks r false false x y) (kept false f (λ _. r.isdata))
    frame_kind rx o (ways.is_identified r) =
        is_other s (serviced s f) (ltb 5 (control_of f))
        (other_marks r.isdata false _ _ _ false r.five refl refl refl (unfold device_clear in simp r.four))
        (kept _ _ (λ _. serviced_kind s f ∙ r.isdata))

-- a send passes nothing on and is no asking for status
pub send_alone : (s : State) (f : ℕ) → is_send s f ≡ true → (passes_on s f || asks_status s f) ≡ false
send_alone s f e = go (is_data f) (is_active s.talker.role) refl refl
  where
    go : (d a : Bool) → is_data f ≡ d → is_active s.talker.role ≡ a → (passes_on s f || asks_status s f) ≡ false
    go true true D A = let m = data_marks s f D true _ _ _ _ A refl refl refl refl in λ i. m.passes i || m.status i
    go true false D A = absurd (false≢true (sym (data_marks s f D false _ _ _ _ A refl refl refl refl).send ∙ e))
    go false a D A =
        let q : (eqb (control_of f) 5 && asks s f 96) ≡ true = sym (other_marks s f D _ _ _ _ _ refl refl refl refl refl).send ∙ e in
        let five = eqb-true (control_of f) 5 (and_left _ _ q) in
        let d = eqb-true (data_of f) 96 (and_left _ _ (and_right (eqb (control_of f) 5) _ q)) in
        let m = other_marks s f D true _ false false _ (and_left _ _ q) refl (not_asked s f 97 (λ h. omega arith))
        (le-ltb 5 (control_of f) (omega arith)) refl in
        λ i. m.passes i || m.status i

pub role_fits : (w : World) → Fits w → role-fit.Fit w.state.talker.role
role_fits w F = (talker-laws.fit_true w.state.talker (tests w.state (length w.rx) (length w.tx) F).talker).role

pub kind_of : (f : ℕ) (w : World) → Fits w → Kind w.state w.rx f (frame_taken w.state w.rx f)
kind_of f w F = frame_kind w.state f (role_fits w F) w.rx _ (ways.way w.state w.rx f)

-- ---- what is seen tells the kind

module _ (s : State) (rx : List ℕ) (f : ℕ) where
  pub sends_from : (o : Outcome) → Kind s rx f o → is_send s f ≡ true → o ≡ send_from s rx
  sends_from o (is_sent m) e = refl
  sends_from o (is_status m) e = absurd (false≢true (sym m.send ∙ e))
  sends_from o (is_back m d) e = absurd (false≢true (sym m.send ∙ e))
  sends_from o (is_cleared m c) e = absurd (false≢true (sym m.send ∙ e))
  sends_from o (is_kept m d l) e = absurd (false≢true (sym m.send ∙ e))
  sends_from o (is_other t n p m x) e = absurd (false≢true (sym m.send ∙ e))

  pub sends_status : (o : Outcome) → Kind s rx f o → asks_status s f ≡ true → o ≡ send_status s
  sends_status o (is_sent m) e = absurd (false≢true (sym m.status ∙ e))
  sends_status o (is_status m) e = refl
  sends_status o (is_back m d) e = absurd (false≢true (sym m.status ∙ e))
  sends_status o (is_cleared m c) e = absurd (false≢true (sym m.status ∙ e))
  sends_status o (is_kept m d l) e = absurd (false≢true (sym m.status ∙ e))
  sends_status o (is_other t n p m x) e = absurd (false≢true (sym m.status ∙ e))

  pub clears_all : (o : Outcome) → Kind s rx f o → device_clear s f ≡ true → o ≡ passed (cleared (obeyed s (order_in s f))) f
  clears_all o (is_sent m) e = absurd (false≢true (sym m.clear ∙ e))
  clears_all o (is_status m) e = absurd (false≢true (sym m.clear ∙ e))
  clears_all o (is_back m d) e = absurd (false≢true (sym m.clear ∙ e))
  clears_all o (is_cleared m c) e = refl
  clears_all o (is_kept m d l) e = absurd (false≢true (sym m.clear ∙ e))
  clears_all o (is_other t n p m x) e = absurd (false≢true (sym m.clear ∙ e))

  -- a send leaves the notes
  pub send_notes : (send_from s rx).state.notes ≡ s.notes
  unfolding send_from send_state ended talking removed_state resumed
  send_notes = go (send_held (rule_of s.regs) rx s.rx)
    where
      go : (x : Sent Received ℕ) → (send_state s (removed_state s rx) (given_of x)).state.notes ≡ s.notes
      go (none r) = refl
      go (one g r) = refl
