-- Returns are judged by the frame that was answered. Assumes nothing.
use Prim.Native.Nat.{ℕ, ◌≤◌}
use native.Mathlib.Omega.{arith}
use mathlib.Core.Path.{◌≡◌, refl, sym, ap, subst, ◌∙◌}
use mathlib.Core.Bool.{Bool, true, false, cond, ◌&&◌, ◌||◌, not, or-true, or-false, or_assoc, true≢false, false≢true}
use mathlib.Core.List.{List, [], ◌∷◌, nil≢cons}
use lib.Dec.{eqb}
use borrow.Author.Tests.{eqb-true, eqb-false, eq-eqb, ne_eqb, le-leb, le-ltb}
use Rattle.answers.specs.Refusals.{first_refusal}
use Rattle.branches.proofs.Branches.{and_left, and_right}
use Rattle.machine.specs.Machine as machine
use Rattle.machine.specs.Course as course
use Rattle.machine.specs.Machine.{Obeys, finally}
use Rattle.frame.specs.Frame.{control_of, data_of, made, is_data, stripped, same_apart}
use Rattle.talker.specs.declared.Talker.{Talker}
use Rattle.state.specs.declared.State.{State}
use Rattle.state.specs.Outcome.{Outcome}
use Rattle.answers.specs.Answers.{Said, said, frame, refused}
use Rattle.line.specs.HoldingOff.{next_out}
use Rattle.loopside.specs.Frames.{frame_taken, device_clear}
use Rattle.bridge.specs.Calls.{reset, write, line_byte, line_break, key, ask_line_byte, take_line_byte, loop_frame, Call, create}
use Rattle.bridge.specs.Calls.{show, on, World, Did, checks, outcome, settled_by, not_refused, step, refusal}
use Rattle.laws.specs.Observers.{taken, is_asked, equal_return, is_send, data_frame, asks_status, passes_on, sent, status_sent, restarts}
use Rattle.laws.specs.Worlds.{held_cells}
use Rattle.laws.specs.StatusWay.{ends_way}
use Rattle.laws.specs.Returns.{finishes, own_frame, Judged, ReturnsJudged}
use Rattle.machine.proofs.Course.{neither}
use Rattle.reading.specs.Reading.{Sent, none, one}
use Rattle.reading.specs.Received.{Received}
use Rattle.sending.specs.Sending.{given_of, send_held}
use Rattle.talker.specs.UnderWay.{talking}
use Rattle.loopside.specs.Sends.{rule_of, ended, removed_state, send_state, send_from, send_status}
use Rattle.runs.proofs.Bytes.{sent_plain}
use Rattle.runs.proofs.Sends.{seen_plain}
use Rattle.runs.proofs.Answered.{status_frame}
use Rattle.frame.proofs.Laws.{stripped_twice}
use Rattle.role.specs.Role.{is_active}
use Rattle.laws.proofs.Refusing.{by_refusal, fitting}
use Rattle.runs.proofs.Refusals.{if_taken}
use Rattle.runs.proofs.Alike.{same_either}
use Rattle.runs.proofs.Runs.{first_not}
use Rattle.runs.proofs.SendRule.{send_rule}
use Rattle.laws.proofs.Answers.{frame_not_refused}
use Rattle.runs.proofs.FrameKinds.{Kind, no_data, kind_of, address_high}
use Rattle.runs.proofs.FrameKinds as kinds
use Rattle.laws.proofs.Ways.{Way, is_next, is_back, is_last, is_damaged, is_stored, is_passed, is_cleared}
use Rattle.laws.proofs.Ways.{is_obeyed, is_assigned, is_send_asked, is_told, is_finishing, is_ready, is_identified, way}
use Rattle.runs.proofs.Untouched.{Untouched, both_untouched, settled_untouched, break_untouched, key_untouched, line_untouched, gone_untouched}
use Rattle.runs.proofs.Untouched.{write_untouched}
use Rattle.runs.proofs.Steps.{answer, after, end, some, Without, ours, at_call, at_left}

-- the frame under way is g but for the service bit, the talker is active, with status where k holds, and finishing is e
record Under (k : Bool) (g : ℕ) (e : Bool) (s : State) : Type 0 where
  talker : s.talker.role.phase ≡ cond k 3 2
  frame : stripped s.talker.under.frame ≡ g
  finishing : k ≡ false → s.talker.under.finishing ≡ e

module _ (k : Bool) (g : ℕ) (e : Bool) where
  -- nothing of it changes
  moved : {x : Bool} (s t : State) → Untouched s t → Under k g x s → Under k g x t
  moved s t v u =
      record {
        talker = ap (λ (y : Talker). y.role.phase) v.talker ∙ u.talker;
        frame = ap (λ (y : Talker). stripped y.under.frame) v.talker ∙ u.frame;
        finishing = λ h. ap (λ (y : Talker). y.under.finishing) v.talker ∙ u.finishing h;
      }

  -- nothing of it changes, and no ready 66 was taken
  same : (s t : State) (x : Bool) → Untouched s t → x ≡ false → Under k g e s → Under k g (e || x) t
  same s t x v n u =
      let m = moved s t v u in
      record { talker = m.talker; frame = m.frame; finishing = λ h. m.finishing h ∙ sym (or-false e) ∙ (λ i. e || sym n i) }

  -- the talker is no mere addressed one
  not_addressed : (s : State) → Under k g e s → eqb s.talker.role.phase 1 ≡ true → ⊥
  not_addressed s u h = go k u.talker
    where
      go : (k : Bool) → s.talker.role.phase ≡ cond k 3 2 → ⊥
      go true t = omega (arith, eqb-true s.talker.role.phase 1 h)
      go false t = omega (arith, eqb-true s.talker.role.phase 1 h)

  module _ (w : World) (f : ℕ) (u : Under k g e w.state) (D : is_data f ≡ false) (C : eqb (control_of f) 4 ≡ false) where
    -- a ready frame other than 66
    unlike : (data_of f ≡ 66 → ⊥) → eqb f (made 5 66) ≡ false
    unlike h = ne_eqb f (made 5 66) (λ q. h (omega arith))

    frame_on : (o : Outcome) → Way w.state w.rx f o → Under k g (e || eqb f (made 5 66)) o.state
    frame_on o (is_next r m t x) = absurd (true≢false (sym r.isdata ∙ D))
    frame_on o (is_back r m t) = absurd (true≢false (sym r.isdata ∙ D))
    frame_on o (is_last r m t x) = absurd (true≢false (sym r.isdata ∙ D))
    frame_on o (is_damaged r m) = absurd (true≢false (sym r.isdata ∙ D))
    frame_on o (is_stored r l) = absurd (true≢false (sym r.isdata ∙ D))
    frame_on o (is_passed r l) = absurd (true≢false (sym r.isdata ∙ D))
    frame_on o (is_cleared r c) = absurd (true≢false (sym r.four ∙ C))
    frame_on o (is_obeyed r c) = absurd (true≢false (sym r.four ∙ C))
    frame_on o (is_assigned r a) =
        record {
          talker = u.talker;
          frame = u.frame;
          finishing = λ h. u.finishing h ∙ sym (or-false e) ∙ (λ i. e || sym (unlike (address_high w.state.talker.role (data_of f) 66 (omega arith) a)) i);
        }
    frame_on o (is_send_asked r a x) = absurd (not_addressed w.state u (and_right (eqb (data_of f) 96) _ x))
    frame_on o (is_told r a x y) = absurd (not_addressed w.state u (and_right (eqb (data_of f) 97) _ y))
    frame_on o (is_finishing r a x y z) =
        record {
          talker = u.talker;
          frame = u.frame;
          finishing = λ _. sym (or-true e) ∙
              (λ i. e || sym (eq-eqb f (made 5 66) (omega (arith, eqb-true (control_of f) 5 r.five, eqb-true (data_of f) 66 (and_left _ _ z)))) i);
        }
    frame_on o (is_ready r a x y z) = record { talker = u.talker; frame = u.frame; finishing = λ h. u.finishing h ∙ go h (eqb (data_of f) 66) refl }
      where
        go : k ≡ false → (t : Bool) → eqb (data_of f) 66 ≡ t → e ≡ (e || eqb f (made 5 66))
        go h true q = absurd (true≢false (sym (λ i. q i && eq-eqb w.state.talker.role.phase 2 (u.talker ∙ (λ j. cond (h j) 3 2)) i) ∙ z))
        go h false q = sym (or-false e) ∙ (λ i. e || sym (unlike (eqb-false (data_of f) 66 q)) i)
    frame_on o (is_identified r) =
        record {
          talker = u.talker;
          frame = u.frame;
          finishing = λ h. u.finishing h ∙ sym (or-false e) ∙
              (λ i. e || sym (ne_eqb f (made 5 66) (λ q. eqb-false (control_of f) 5 r.five (omega arith))) i);
        }

  -- a call that does not end its way leaves it under way
  abbrev On : Call → World → Did → Type 0
  On c w d = Under k g e w.state → ends_way c d.said ≡ false → Under k g (e || finishes c w d.said) d.world.state

  done_on : (c : Call) (w : World) → On c w (not_refused c w)
  unfolding not_refused outcome settled_by ends_way restarts finishes said
  done_on (create m) w u n = absurd (true≢false n)
  done_on (show side) w u n = same w.state w.state false (record { talker = refl; remote = refl }) refl u
  done_on (on reset) w u n = absurd (true≢false n)
  done_on (on (write x v)) w u n = same w.state _ false (both_untouched _ _ _ (write_untouched w.state x v) (settled_untouched w.state false _)) refl u
  done_on (on (line_byte b)) w u n = same w.state _ false (both_untouched _ _ _ (line_untouched w.state b) (settled_untouched w.state false _)) refl u
  done_on (on line_break) w u n = same w.state _ false (both_untouched _ _ _ (break_untouched w.state) (settled_untouched w.state false _)) refl u
  done_on (on key) w u n = same w.state _ false (both_untouched _ _ _ (key_untouched w.state) (settled_untouched w.state false _)) refl u
  done_on (on ask_line_byte) w u n = same w.state _ false (settled_untouched w.state false _) refl u
  done_on (on (take_line_byte b)) w u n =
      same w.state _ false (both_untouched _ _ _ (gone_untouched w.state (next_out w.state w.tx)) (settled_untouched w.state false _)) refl u
  done_on (on (loop_frame f)) w u n =
      let m = neither (is_data f) (eqb (control_of f) 4)
      ((λ i. not (sym (frame_not_refused w.state w.rx f) i) && (is_data f || eqb (control_of f) 4)) ∙ n) in
      moved _ _ (settled_untouched w.state (device_clear w.state f) _)
      (subst (λ (t : Bool). Under k g (e || (not t && eqb f (made 5 66))) (frame_taken w.state w.rx f).state)
      (sym (frame_not_refused w.state w.rx f))
      (frame_on w f u m.0 m.1 (frame_taken w.state w.rx f) (way w.state w.rx f)))

  refused_on : (c : Call) (w : World) (n : ℕ) → On c w (refusal n w)
  unfolding finishes
  refused_on (create m) w n u q = same w.state w.state false (record { talker = refl; remote = refl }) refl u
  refused_on (show side) w n u q = same w.state w.state false (record { talker = refl; remote = refl }) refl u
  refused_on (on reset) w n u q = same w.state w.state false (record { talker = refl; remote = refl }) refl u
  refused_on (on (write a v)) w n u q = same w.state w.state false (record { talker = refl; remote = refl }) refl u
  refused_on (on (line_byte b)) w n u q = same w.state w.state false (record { talker = refl; remote = refl }) refl u
  refused_on (on line_break) w n u q = same w.state w.state false (record { talker = refl; remote = refl }) refl u
  refused_on (on key) w n u q = same w.state w.state false (record { talker = refl; remote = refl }) refl u
  refused_on (on ask_line_byte) w n u q = same w.state w.state false (record { talker = refl; remote = refl }) refl u
  refused_on (on (take_line_byte b)) w n u q = same w.state w.state false (record { talker = refl; remote = refl }) refl u
  refused_on (on (loop_frame f)) w n u q = same w.state w.state false (record { talker = refl; remote = refl }) refl u

  on_way : (c : Call) (w : World) → On c w (step c w)
  on_way c w = by_refusal (On c w) c w (λ _. done_on c w) (λ _. refused_on c w _)

-- ---- the frame is sent

-- the stripped frame g is the one seen
one_of : (f g : ℕ) → f ∷ [] ≡ g ∷ [] → f ≡ g
one_of f g e = cc

module _ (w : World) (f g : ℕ) where
  abbrev Sends : Bool → Outcome → Type 0
  Sends k o = cond k (cond (asks_status w.state f) (data_frame (said o.answer)) [])
      (cond (passes_on w.state f || asks_status w.state f) [] (data_frame (said o.answer))) ≡ g ∷ [] →
      Under k g false o.state

  -- nothing of ours is sent
  nothing : {A : Type 0} → [] ≡ g ∷ [] → A
  nothing e = absurd (nil≢cons e)

  -- a send
  sent_under : data_frame (said (send_from w.state w.rx).answer) ≡ g ∷ [] → Under false g false (send_from w.state w.rx).state
  unfolding send_from send_state ended talking send_held said
  sent_under = go (send_held (rule_of w.state.regs) w.rx w.state.rx) refl
    where
      go : (x : Sent Received ℕ) → send_held (rule_of w.state.regs) w.rx w.state.rx ≡ x →
          data_frame (said (send_state w.state (removed_state w.state w.rx) (given_of x)).answer) ≡ g ∷ [] →
          Under false g false (send_state w.state (removed_state w.state w.rx) (given_of x)).state
      go (none r) e q = nothing q
      go (one h r) e q =
          let p = sent_plain (rule_of w.state.regs) (held_cells w) h r e in
          record { talker = refl; frame = p.bare ∙ one_of h g (sym (seen_plain w.state h p) ∙ q); finishing = λ _. refl }

  -- the status byte
  told_under : data_frame (said (send_status w.state).answer) ≡ g ∷ [] → Under true g false (send_status w.state).state
  unfolding send_status talking
  told_under q = record { talker = refl; frame = one_of _ g (sym (status_frame w.state) ∙ q); finishing = λ h. absurd (true≢false h) }

  kind_under : (k : Bool) (o : Outcome) → Kind w.state w.rx f o → Sends k o
  unfolding said ended
  kind_under k o (kinds.is_sent m) = rw (m.passes, m.status) (pick k)
    where
      pick : (k : Bool) → cond k [] (data_frame (said (send_from w.state w.rx).answer)) ≡ g ∷ [] → Under k g false (send_from w.state w.rx).state
      pick true q = nothing q
      pick false q = sent_under q
  kind_under k o (kinds.is_status m) = rw (m.passes, m.status) (pick k)
    where
      pick : (k : Bool) → cond k (data_frame (said (send_status w.state).answer)) [] ≡ g ∷ [] → Under k g false (send_status w.state).state
      pick true q = told_under q
      pick false q = nothing q
  kind_under true o (kinds.is_back m d) = λ q. nothing (sym (rw m.status) ∙ q)
  kind_under false o (kinds.is_back m d) = λ q. nothing (sym (rw (m.passes, m.status)) ∙ q)
  kind_under true o (kinds.is_cleared m c) = λ q. nothing (sym (rw m.status) ∙ q)
  kind_under false o (kinds.is_cleared m c) =
      λ q. nothing (sym (rw (m.passes, m.status) (no_data f (le-ltb (control_of f) 4 (omega (arith, eqb-true (control_of f) 4 c))))) ∙ q)
  kind_under true o (kinds.is_kept m d l) = λ q. nothing (sym (rw m.status) ∙ q)
  kind_under false o (kinds.is_kept m d l) = λ q. nothing (sym (rw m.passes) ∙ q)
  kind_under true o (kinds.is_other t n p m x) = λ q. nothing (sym (rw m.status) ∙ q)
  kind_under false o (kinds.is_other t n true m x) = λ q. nothing (sym (rw m.passes) ∙ q)
  kind_under false o (kinds.is_other t n false m x) = λ q. nothing (sym (rw (m.passes, m.status) (no_data n (x.answer refl))) ∙ q)

-- where nothing is seen, nothing is sent
none_either : (k x y : Bool) → ◌≡◌ {A = List ℕ} (cond k (cond x [] []) (cond y [] [])) []
none_either k x y = (λ i. cond k (same_either x [] i) (same_either y [] i)) ∙ same_either k []

-- what a call of ours sends is under way after it
own_under : (k : Bool) (g : ℕ) (c : Call) (w : World) → own_frame k c w (answer c w) ≡ g ∷ [] → Under k g false (after c w).state
unfolding sent status_sent not_refused outcome settled_by
own_under k g c w =
    by_refusal (λ (d : Did). own_frame k c w d.said ≡ g ∷ [] → Under k g false d.world.state) c w (done c)
    (λ _ q. absurd (nil≢cons (sym (refused_none c (first_refusal (checks c w))) ∙ q)))
  where
    refused_none : (c : Call) (n : ℕ) → own_frame k c w (refused n) ≡ []
    refused_none (create m) n = same_either k []
    refused_none (show side) n = same_either k []
    refused_none (on reset) n = same_either k []
    refused_none (on (write a v)) n = same_either k []
    refused_none (on (line_byte b)) n = same_either k []
    refused_none (on line_break) n = same_either k []
    refused_none (on key) n = same_either k []
    refused_none (on ask_line_byte) n = same_either k []
    refused_none (on (take_line_byte b)) n = same_either k []
    refused_none (on (loop_frame f)) n = none_either k (asks_status w.state f) (passes_on w.state f || asks_status w.state f)

    done : (c : Call) → first_refusal (checks c w) ≡ 0 → own_frame k c w (not_refused c w).said ≡ g ∷ [] → Under k g false (not_refused c w).world.state
    done (create m) e q = absurd (nil≢cons (sym (same_either k []) ∙ q))
    done (show side) e q = absurd (nil≢cons (sym (same_either k []) ∙ q))
    done (on reset) e q = absurd (nil≢cons (sym (same_either k []) ∙ q))
    done (on (write a v)) e q = absurd (nil≢cons (sym (same_either k []) ∙ q))
    done (on (line_byte b)) e q = absurd (nil≢cons (sym (same_either k []) ∙ q))
    done (on line_break) e q = absurd (nil≢cons (sym (same_either k []) ∙ q))
    done (on key) e q = absurd (nil≢cons (sym (same_either k []) ∙ q))
    done (on ask_line_byte) e q = absurd (nil≢cons (sym (same_either k []) ∙ q))
    done (on (take_line_byte b)) e q = absurd (nil≢cons (sym (same_either k []) ∙ q))
    done (on (loop_frame f)) e q =
        moved k g false _ _ (settled_untouched w.state (device_clear w.state f) _)
        (kind_under w f g k (frame_taken w.state w.rx f) (kind_of f w (fitting (loop_frame f) w e).0) q)

-- ---- the run after it

run_on : (k : Bool) (g : ℕ) (e : Bool) (cs : List Call) (w : World) → Without (λ c w a. ends_way c a) cs w → Under k g e w.state →
    Under k g (e || some finishes cs w) (end cs w).state
unfolding course.end course.some machine.course
run_on k g e [] w n u = subst (λ (x : Bool). Under k g x w.state) (sym (or-false e)) u
run_on k g e (c ∷ cs) w n u =
    let m = first_not (λ c w a. ends_way c a) c cs w n in
    subst (λ (x : Bool). Under k g x (end cs (after c w)).state) (or_assoc e (finishes c w (answer c w)) (some finishes cs (after c w)))
    (run_on k g (e || finishes c w (answer c w)) cs (after c w) m.1 (on_way k g e c w u m.0))

-- ---- the return

module _ (k : Bool) (g : ℕ) (e : Bool) (w : World) (u : Under k g e w.state) (r : ℕ) (D : is_data r ≡ true) where
  active : is_active w.state.talker.role ≡ true
  active = le-leb 2 w.state.talker.role.phase (go k u.talker)
    where
      go : (k : Bool) → w.state.talker.role.phase ≡ cond k 3 2 → 2 ≤ w.state.talker.role.phase
      go true t = omega arith
      go false t = omega arith

  -- it is the same frame by what was sent and by what is under way
  apart : same_apart r g ≡ same_apart r w.state.talker.under.frame
  unfolding same_apart
  apart = ap (λ (x : ℕ). eqb (stripped r) x) (ap stripped (sym u.frame) ∙ stripped_twice w.state.talker.under.frame)

  of_status : eqb w.state.talker.role.phase 3 ≡ k
  of_status = ap (λ (t : ℕ). eqb t 3) u.talker ∙ go k
    where
      go : (k : Bool) → eqb (cond k 3 2) 3 ≡ k
      go true = refl
      go false = refl

  -- an equal return that is a send
  sends : same_apart r g ≡ true → (k || e) ≡ false → is_send w.state r ≡ true
  unfolding is_send equal_return
  sends m n =
      let x = neither k e n in
      let two : w.state.talker.role.phase ≡ 2 = u.talker ∙ (λ i. cond (x.0 i) 3 2) in
      (λ i. is_asked 96 w.state r ||
      (((D i && active i) && (sym apart ∙ m) i) && (eq-eqb w.state.talker.role.phase 2 two i && not ((u.finishing x.0 ∙ x.1) i))))
      ∙ or-true (is_asked 96 w.state r)

  abbrev Ends : Said → Type 0
  Ends a = (same_apart r g ≡ false → a ≡ frame 5 65) × (same_apart r g ≡ true → (k || e) ≡ true → a ≡ frame 5 64)

  ends_way_lem : (o : Outcome) → Way w.state w.rx r o → Ends (said o.answer)
  unfolding said ended
  ends_way_lem o (is_next q m t x) = (λ n. absurd (true≢false (sym m ∙ sym apart ∙ n)), λ _ n. absurd (false≢true (sym neither_so ∙ n)))
    where
      neither_so : (k || e) ≡ false
      neither_so = let y : k ≡ false = sym of_status ∙ t in λ i. y i || (sym (u.finishing y) ∙ x) i
  ends_way_lem o (is_back q m t) = (λ n. absurd (true≢false (sym m ∙ sym apart ∙ n)), λ _ _. refl)
  ends_way_lem o (is_last q m t x) = (λ n. absurd (true≢false (sym m ∙ sym apart ∙ n)), λ _ _. refl)
  ends_way_lem o (is_damaged q m) = (λ _. refl, λ n. absurd (true≢false (sym n ∙ apart ∙ m)))
  ends_way_lem o (is_stored q l) = absurd (true≢false (sym active ∙ q.idle))
  ends_way_lem o (is_passed q l) = absurd (true≢false (sym active ∙ q.idle))
  ends_way_lem o (is_cleared q c) = absurd (true≢false (sym D ∙ q.isdata))
  ends_way_lem o (is_obeyed q c) = absurd (true≢false (sym D ∙ q.isdata))
  ends_way_lem o (is_assigned q a) = absurd (true≢false (sym D ∙ q.isdata))
  ends_way_lem o (is_send_asked q a x) = absurd (true≢false (sym D ∙ q.isdata))
  ends_way_lem o (is_told q a x y) = absurd (true≢false (sym D ∙ q.isdata))
  ends_way_lem o (is_finishing q a x y z) = absurd (true≢false (sym D ∙ q.isdata))
  ends_way_lem o (is_ready q a x y z) = absurd (true≢false (sym D ∙ q.isdata))
  ends_way_lem o (is_identified q) = absurd (true≢false (sym D ∙ q.isdata))

  ends : taken (answer (on (loop_frame r)) w) ≡ true → Ends (answer (on (loop_frame r)) w)
  unfolding step not_refused outcome
  ends t =
      if_taken (λ (d : Did). Ends d.said) (first_refusal (checks (on (loop_frame r)) w)) (not_refused (on (loop_frame r)) w) w
      (λ _. ends_way_lem (frame_taken w.state w.rx r) (way w.state w.rx r)) t

  judged : taken (answer (on (loop_frame r)) w) ≡ true → Judged g r k e (machine.seen ours (on (loop_frame r)) w)
  judged t =
      let x = ends t in
      record { damaged = x.0; ended = x.1; next = λ m n. send_rule (on (loop_frame r)) w tt r refl t (sends m n) }

pub returns_judged : Obeys ours ReturnsJudged
returns_judged c cs d w B j h k g r q n =
    at_call (λ d. is_data r ≡ true → taken (answer d v) ≡ true → Judged g r k (some finishes cs (after c w)) (machine.seen ours d v)) (on (loop_frame r))
    (at_left (λ v. is_data r ≡ true → taken (answer (on (loop_frame r)) v) ≡ true →
    Judged g r k (some finishes cs (after c w)) (machine.seen ours (on (loop_frame r)) v)) cs (after c w)
    (λ D t. judged k g (some finishes cs (after c w)) (end cs (after c w)) (run_on k g false cs (after c w) n (own_under k g c w q)) r D t))
    d
  where
    v : World
    v = finally ours cs (after c w)
