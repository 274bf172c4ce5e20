-- A frame of ours stays under way until a data frame, a command, a create or a reset comes. Assumes nothing.
use Prim.Native.Nat.{ℕ, ◌+◌, ◌<◌}
use native.Mathlib.Omega.{arith}
use mathlib.Core.Path.{◌≡◌, refl, sym, ap, subst, ◌∙◌}
use mathlib.Core.Bool.{Bool, true, false, cond, ◌&&◌, ◌||◌, not, or-true, or-false, or_assoc, and-false, true≢false}
use mathlib.Core.List.{List, [], ◌∷◌}
use lib.Dec.{eqb, leb, ltb}
use borrow.Author.Tests.{eqb-true, eq-eqb, ne_eqb, leb-true}
use Rattle.branches.proofs.Branches.{by_cond, and_left, and_right}
use Rattle.machine.specs.Course.{some, Without}
use Rattle.machine.specs.Machine.{seen, course, finally}
use Rattle.machine.proofs.Course.{neither, first_not}
use Rattle.frame.specs.Frame.{control_of, data_of, made, is_data, stripped}
use Rattle.frame.proofs.Laws.{control_service}
use Rattle.role.specs.ReadyFrames.{gives_address}
use Rattle.role.proofs.ReadyLaws.{address_numbers}
use Rattle.talker.specs.declared.Under as declared
use Rattle.bus.specs.Bus.{clears}
use Rattle.answers.specs.Refusals.{first_refusal}
use Rattle.answers.specs.Answers.{Said, said, frame, refused}
use Rattle.mailstate.specs.declared.State.{State}
use Rattle.mailstate.specs.Outcome.{Outcome}
use Rattle.mailloop.specs.Sends.{serviced}
use Rattle.mailloop.specs.Messages.{passed, released, identify, frame_taken}
use Rattle.mailbox.specs.BusSide as bus-side
use Rattle.mailbox.specs.Calls.{reset, loop_frame, bus_command, bus_byte, bus_fetch, bus_clear, bus_lines, Call, create, show, on}
use Rattle.mailbox.specs.Calls.{World, Did, outcome, not_refused, checks, step}
use Rattle.maillaws.specs.Mailboxes.{mailbox}
use Rattle.maillaws.specs.Sights.{of_frame_said, restarts}
use Rattle.maillaws.specs.NewsTold.{ends_way}
use Rattle.maillaws.specs.OwnReturns.{finishes}
use Rattle.maillaws.proofs.Refusal.{by_refusal, frame_fitting}
use Rattle.maillaws.proofs.FitParts.{Parts, parts}
use Rattle.maillaws.proofs.Replied.{loop_taken}
use Rattle.maillaws.proofs.FrameTests.{no_frame_by_byte, no_frame_by_control}
use Rattle.maillaws.proofs.Fetching.{Fetching, is_none, is_given, is_status, fetching}
use Rattle.maillaws.proofs.FrameWays.{Way, way, is_next, is_next_id, is_back, is_last, is_damaged, is_held, is_heard, is_passed}
use Rattle.maillaws.proofs.FrameWays.{is_cleared, is_obeyed, is_released, is_assigned, is_send_asked, is_told, is_finishing, is_id_asked}
use Rattle.maillaws.proofs.FrameWays.{is_accessory, is_ready, is_identified}

-- the frame under way is g but for the service bit, the talker is active, with status where k holds, finishing is e, and where z holds the frame
-- came from the way to the loop
pub record Under (k : Bool) (g : ℕ) (z e : Bool) (s : State) : Type 0 where
  pub phase : s.talker.role.phase ≡ cond k 3 2
  pub frame : stripped s.talker.under.frame ≡ stripped g
  pub finishing : k ≡ false → s.talker.under.finishing ≡ e
  pub source : z ≡ true → s.source ≡ 0

-- not ready for data went on
abbrev finishing : ℕ → Said → Bool
finishing f a = eqb f (made 5 66) && of_frame_said (λ k d. eqb k 5 && eqb d 66) false a

module _ (k : Bool) (g : ℕ) (z e : Bool) where
  -- nothing of it changes, and not ready for data did not come, or does not count
  kept : (s t : State) (x : Bool) → t.talker.role.phase ≡ s.talker.role.phase → t.talker.under ≡ s.talker.under → t.source ≡ s.source →
      (k ≡ false → x ≡ false) → Under k g z e s → Under k g z (e || x) t
  kept s t x p q r n u =
      record {
        phase = p ∙ u.phase;
        frame = ap (λ (y : declared.Under). stripped y.frame) q ∙ u.frame;
        finishing = λ h. ap (λ (y : declared.Under). y.finishing) q ∙ u.finishing h ∙ sym (or-false e) ∙ (λ i. e || sym (n h) i);
        source = λ h. r ∙ u.source h;
      }

  -- an active talker is no mere addressed one
  not_addressed : (s : State) → Under k g z e s → eqb s.talker.role.phase 1 ≡ true → ⊥
  not_addressed s u h = go k u.phase
    where
      go : (k : Bool) → s.talker.role.phase ≡ cond k 3 2 → ⊥
      go true t = omega (arith, eqb-true s.talker.role.phase 1 h)
      go false t = omega (arith, eqb-true s.talker.role.phase 1 h)

  -- ---- a frame that does not end its way

  module _ (w : World) (p : Parts w.tobus w.toloop w.state) (f : ℕ) (u : Under k g z e w.state) where
    abbrev s : State
    s = w.state

    abbrev On : Outcome → Type 0
    On o = Under k g z (e || finishing f (said o.answer)) o.state

    -- a frame other than 5,66
    unlike : (a : Said) → eqb f (made 5 66) ≡ false → k ≡ false → finishing f a ≡ false
    unlike a n _ = λ i. n i && of_frame_said (λ k d. eqb k 5 && eqb d 66) false a

    -- the frame that is held back is no 5,66
    held_on : On (released s)
    unfolding released said serviced
    held_on =
        kept s _ _ refl refl refl
        (λ _. ap (λ (t : Bool). eqb f (made 5 66) && (t && eqb (data_of (serviced s s.hold.frame)) 66))
        (ne_eqb (control_of (serviced s s.hold.frame)) 5 (λ q. omega (arith, low))) ∙ and-false (eqb f (made 5 66))) u
      where
        low : control_of (serviced s s.hold.frame) < 4
        low =
            by_cond (λ (n : ℕ). control_of n < 4) s.toloop.news.request _ _ (λ _. omega (arith, control_service s.hold.frame, p.hold))
            (λ _. omega (arith, p.hold))

    address_high : gives_address s.talker.role (data_of f) ≡ true → eqb (data_of f) 66 ≡ false
    address_high a =
        let b = address_numbers s.talker.role (data_of f) ∙ a in
        let low = and_left (leb 128 (data_of f)) _ (and_left (leb 128 (data_of f) && ltb (data_of f) 159) _ b) in
        ne_eqb (data_of f) 66 (λ q. omega (arith, leb-true 128 (data_of f) low))

    frame_on : is_data f ≡ false → eqb (control_of f) 4 ≡ false → (o : Outcome) → Way s w.toloop f o → On o
    unfolding said identify
    frame_on D C o (is_next r m) = absurd (true≢false (sym r.back.isdata ∙ D))
    frame_on D C o (is_next_id r m) = absurd (true≢false (sym r.back.isdata ∙ D))
    frame_on D C o (is_back r m t) = absurd (true≢false (sym r.isdata ∙ D))
    frame_on D C o (is_last r m t x) = absurd (true≢false (sym r.isdata ∙ D))
    frame_on D C o (is_damaged r m) = absurd (true≢false (sym r.isdata ∙ D))
    frame_on D C o (is_held r l h) = absurd (true≢false (sym r.isdata ∙ D))
    frame_on D C o (is_heard r l h) = absurd (true≢false (sym r.isdata ∙ D))
    frame_on D C o (is_passed r l) = absurd (true≢false (sym r.isdata ∙ D))
    frame_on D C o (is_cleared r c) = absurd (true≢false (sym r.four ∙ C))
    frame_on D C o (is_obeyed r c) = absurd (true≢false (sym r.four ∙ C))
    frame_on D C o (is_released r h) = held_on
    frame_on D C o (is_assigned r h a) =
        kept s _ _ refl refl refl (unlike (said (passed s (made 5 (data_of f + 1))).answer) (no_frame_by_byte f 5 66 (omega arith) (address_high a))) u
    frame_on D C o (is_send_asked r x) = absurd (not_addressed s u (and_right (eqb (data_of f) 96) _ x))
    frame_on D C o (is_told r x y) = absurd (not_addressed s u (and_right (eqb (data_of f) 97) _ y))
    frame_on D C o (is_finishing r x y h) =
        let five = r.readying.five in
        let six = and_left (eqb (data_of f) 66) _ h in
        let q : eqb f (made 5 66) ≡ true = eq-eqb f (made 5 66) (omega (arith, eqb-true (control_of f) 5 five, eqb-true (data_of f) 66 six)) in
        record {
          phase = u.phase;
          frame = u.frame;
          finishing = λ _. rw (q, five, six) (sym (or-true e));
          source = u.source;
        }
    frame_on D C o (is_id_asked r x y h v) = absurd (not_addressed s u (and_right (eqb (data_of f) 98) _ v))
    frame_on D C o (is_accessory r x y h v t) = absurd (not_addressed s u (and_right (eqb (data_of f) 99) _ t))
    frame_on D C o (is_ready r x y h v t) = kept s _ _ refl refl refl (λ n. go n (eqb (data_of f) 66) refl) u
      where
        go : k ≡ false → (t : Bool) → eqb (data_of f) 66 ≡ t → finishing f (frame (control_of f) (data_of f)) ≡ false
        go n true q = absurd (true≢false (sym (λ i. q i && eq-eqb s.talker.role.phase 2 (u.phase ∙ (λ j. cond (n j) 3 2)) i) ∙ h))
        go n false q = unlike (frame (control_of f) (data_of f)) (no_frame_by_byte f 5 66 (omega arith) q) n
    frame_on D C o (is_identified r) = kept s _ _ refl refl refl (unlike (said (identify s f).answer) (no_frame_by_control f 5 66 (omega arith) r.five)) u

  -- ---- whatever is called

  abbrev Goes : Call → World → Did → Type 0
  Goes c w d = Under k g z e w.state → ends_way c w d.said ≡ false → Under k g z (e || finishes c w d.said) d.world.state

  quiet : (s t : State) → t.talker ≡ s.talker → t.source ≡ s.source → Under k g z e s → Under k g z (e || false) t
  quiet s t p q u = kept s t false (λ i. (p i).role.phase) (λ i. (p i).under) q (λ _. refl) u

  done_on : (c : Call) (w : World) → first_refusal (checks c w) ≡ 0 → Goes c w (not_refused c w)
  unfolding not_refused outcome ends_way restarts finishes said bus-side.bus_command bus-side.bus_byte bus-side.bus_clear bus-side.bus_lines bus-side.status_given
  done_on (create m) w x u n = absurd (true≢false n)
  done_on (show side) w x u n = quiet w.state w.state refl refl u
  done_on (on reset) w x u n = absurd (true≢false n)
  done_on (on (loop_frame f)) w x u n =
      let m = neither (is_data f) (eqb (control_of f) 4) ((λ i. not (sym (loop_taken f w x) i) && (is_data f || eqb (control_of f) 4)) ∙ n) in
      frame_on w (parts w.tobus w.toloop w.state (frame_fitting f w x).0) f u m.0 m.1 (frame_taken w.state w.toloop f)
      (way w.state w.toloop f)
  done_on (on (bus_command c)) w x u n =
      quiet w.state _ (by_cond (λ (t : State). t.talker ≡ w.state.talker) (clears w.state.bus c) _ _ (λ _. refl) (λ _. refl))
      (by_cond (λ (t : State). t.source ≡ w.state.source) (clears w.state.bus c) _ _ (λ _. refl) (λ _. refl)) u
  done_on (on (bus_byte b mark)) w x u n =
      quiet w.state _ (by_cond (λ (t : State). t.talker ≡ w.state.talker) w.state.bus.role.listener _ _ (λ _. refl) (λ _. refl))
      (by_cond (λ (t : State). t.source ≡ w.state.source) w.state.bus.role.listener _ _ (λ _. refl) (λ _. refl)) u
  done_on (on bus_fetch) w x u n = fetch_on (bus-side.bus_fetch w.state w.tobus) (fetching w.state w.tobus)
    where
      fetch_on : (o : Outcome) → Fetching w.state w.tobus o → Under k g z (e || false) o.state
      fetch_on o is_none = quiet w.state _ refl refl u
      fetch_on o (is_given h) = quiet w.state _ refl refl u
      fetch_on o is_status = quiet w.state _ refl refl u
  done_on (on bus_clear) w x u n = quiet w.state _ refl refl u
  done_on (on bus_lines) w x u n = quiet w.state _ refl refl u

  no_finish : (c : Call) (w : World) (n : ℕ) → finishes c w (refused n) ≡ false
  unfolding finishes
  no_finish (on (loop_frame f)) w n = and-false (eqb f (made 5 66))
  no_finish (create m) w n = refl
  no_finish (show side) w n = refl
  no_finish (on reset) w n = refl
  no_finish (on (bus_command c)) w n = refl
  no_finish (on (bus_byte b mark)) w n = refl
  no_finish (on bus_fetch) w n = refl
  no_finish (on bus_clear) w n = refl
  no_finish (on bus_lines) w n = refl

  call_on : (c : Call) (w : World) → Goes c w (step c w)
  call_on c w = by_refusal (Goes c w) c w (done_on c w) (λ _ u _. kept w.state w.state _ refl refl refl (λ _. no_finish c w _) u)

pub run_on : (k : Bool) (g : ℕ) (z e : Bool) (cs : List Call) (w : World) → Under k g z e w.state → Without ends_way (course (mailbox step) cs w) →
    Under k g z (e || some finishes (course (mailbox step) cs w)) (finally (mailbox step) cs w).state
unfolding course finally some
run_on k g z e [] w u n = subst (λ (x : Bool). Under k g z x w.state) (sym (or-false e)) u
run_on k g z e (c ∷ cs) w u n =
    let m = first_not ends_way (seen (mailbox step) c w) (course (mailbox step) cs (step c w).world) n in
    let x = finishes c w (step c w).said in
    subst (λ (y : Bool). Under k g z y (finally (mailbox step) cs (step c w).world).state)
    (or_assoc e x (some finishes (course (mailbox step) cs (step c w).world)))
    (run_on k g z (e || x) cs (step c w).world (call_on k g z e c w u m.0) m.1)
