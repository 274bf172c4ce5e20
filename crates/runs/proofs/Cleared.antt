-- Bits that tell of what happened: none is invented, and a status byte that came back clears them. Assumes nothing.
use Prim.Native.Nat.{ℕ}
use native.Mathlib.Omega.{arith}
use mathlib.Core.Path.{◌≡◌, refl, sym, ap, subst, ◌∙◌}
use mathlib.Core.Bool.{Bool, true, false, cond, ◌&&◌, ◌||◌, not, false≢true, and-false, or-true}
use mathlib.Core.List.{List, [], ◌∷◌}
use lib.Dec.{eqb}
use borrow.Author.Tests.{eqb-true, ne_eqb, le-leb}
use Rattle.branches.proofs.Branches.{by_cond, and_left, and_right}
use Rattle.answers.specs.Refusals.{first_refusal}
use Rattle.frame.specs.Frame.{control_of, data_of, made, is_data, stripped, same_apart}
use Rattle.frame.proofs.Laws.{same_stripped, stripped_same, stripped_twice}
use Rattle.registers.specs.Writing.{written}
use Rattle.role.specs.Role.{is_active}
use Rattle.store.specs.Ring.{full}
use Rattle.status.specs.declared.Events.{Events}
use Rattle.status.specs.Status.{showed, stays, acknowledged}
use Rattle.state.specs.declared.State.{State}
use Rattle.state.specs.declared.Notes.{Notes}
use Rattle.state.specs.Outcome.{Outcome}
use Rattle.std.specs.Prelude.{Option, Some, None}
use Rattle.state.specs.declared.Next.{Next}
use Rattle.state.specs.declared.Next.TheVariants as out
use Rattle.answers.specs.declared.Answer.TheVariants.{Frame}
use Rattle.answers.specs.Answers.{Said, said, done, refused}
use Rattle.state.specs.Sizes.{start_state}
use Rattle.state.specs.Conditions.{settled, break_state, key_state, status_of}
use Rattle.state.specs.Conditions as status
use Rattle.line.specs.HoldingOff.{is_go_or_stop, flowed, lost_state, stored_with, stored_state, line_state, set_afresh, after_write, next_out, gone}
use Rattle.loopside.specs.LoopToLine.{added_state}
use Rattle.talker.specs.UnderWay.{talking}
use Rattle.talker.specs.Returning.{return_of}
use Rattle.loopside.specs.Sends.{send_status, ended}
use Rattle.loopside.specs.Frames.{cleared, judged, returned, frame_taken, device_clear}
use Rattle.bridge.specs.Calls.{Call, on, create, reset, write, line_byte, line_break, key, ask_line_byte, take_line_byte}
use Rattle.bridge.specs.Calls.{loop_frame, show, World, Did, checks, outcome, settled_by, refused_or, step}
use Rattle.bridge.specs.Calls as calls
use Rattle.laws.specs.Observers.{taken, is_frame, data_frame, equal_return, is_send, asks_status, status_sent, restarts, clears, arrived, lost, empties, any, is_flow}
use Rattle.laws.specs.StatusWay.{ends_way, status_back}
use Rattle.laws.specs.Events.{Event, broken, overrun, pressed, bit_of, happens, noted}
use Rattle.laws.specs.Cleared.{NotInvented, NotAtStart, Clears}
use Rattle.runs.proofs.Bits.{weight_of, event_shown}
use Rattle.runs.proofs.Answered.{status_small, status_frame}
use Rattle.runs.proofs.Runs.{first_not}
use Rattle.runs.proofs.Refused.{frame_answers, frame_taken_lem}
use Rattle.runs.proofs.FrameKinds.{Kind, is_sent, is_status, is_back, is_cleared, is_kept, is_other, sends_status, send_notes, kind_of}
use Rattle.runs.proofs.Refusals.{or_refused, frame_fits}
use Rattle.runs.proofs.Steps.{answer, after, end, Without, ours, at_left, frame_or, off_frame}
use Rattle.machine.specs.Machine as machine
use Rattle.machine.specs.Course as course
use Rattle.machine.specs.Machine.{Obeys}

-- ---- what is noted of an event

stays_false : (set shown again : Bool) → set ≡ false → stays set shown again ≡ false
stays_false true shown again p = absurd (false≢true (sym p))
stays_false false shown again p = refl

never_noted : (x y : Events) (d : ℕ) (e : Event) → noted e x ≡ false → noted e (acknowledged x y d) ≡ false
never_noted x y d broken p = stays_false x.brk (showed d 16) y.brk p
never_noted x y d overrun p = stays_false x.overrun (showed d 32) y.overrun p
never_noted x y d pressed p = stays_false x.key (showed d 128) y.key p

none_noted : (e : Event) → noted e (record { brk = false; overrun = false; key = false }) ≡ false
none_noted broken = refl
none_noted overrun = refl
none_noted pressed = refl

module _ (e : Event) where
  abbrev Clear : State → Type 0
  Clear t = noted e t.notes.seen ≡ false

  -- the status byte is under way as it was, and so is what is noted of e
  record On (s t : State) : Type 0 where
    talker : t.talker.role.phase ≡ s.talker.role.phase
    frame : t.talker.under.frame ≡ s.talker.under.frame
    seen : noted e t.notes.seen ≡ noted e s.notes.seen
    again : noted e t.notes.again ≡ noted e s.notes.again

  -- the state t after a call that answers a
  record Noted (c : Call) (w : World) (a : Said) (t : State) : Type 0 where
    starts : empties c w a ≡ true → Clear t
    fresh : happens e c w a ≡ false → Clear w.state → Clear t
    on : happens e c w a ≡ false → ends_way c a ≡ false → eqb w.state.talker.role.phase 3 ≡ true → On w.state t

  module _ (c : Call) (w : World) (a : Said) (t : State) where
    -- nothing is noted
    left : empties c w a ≡ false → (Clear w.state → Clear t) → (ends_way c a ≡ false → eqb w.state.talker.role.phase 3 ≡ true → On w.state t) →
        Noted c w a t
    left n f o = record { starts = λ q. absurd (false≢true (sym n ∙ q)); fresh = λ _. f; on = λ _. o }

    kept : empties c w a ≡ false → On w.state t → Noted c w a t
    kept n o = left n (λ h. o.seen ∙ h) (λ _ _. o)

    -- it happens
    happened : empties c w a ≡ false → happens e c w a ≡ true → Noted c w a t
    happened n h =
        record {
          starts = λ q. absurd (false≢true (sym n ∙ q));
          fresh = λ q. absurd (false≢true (sym q ∙ h));
          on = λ q. absurd (false≢true (sym q ∙ h));
        }

    -- all notes are taken away
    begun : ends_way c a ≡ true → Clear t → Noted c w a t
    begun n h = record { starts = λ _. h; fresh = λ _ _. h; on = λ _ q. absurd (false≢true (sym q ∙ n)) }

  settled_noted : (c : Call) (w : World) (a : Said) (u : Bool) (t : State) → Noted c w a t → Noted c w a (cond u t (settled w.state t))
  unfolding settled
  settled_noted c w a true t x = x
  settled_noted c w a false t x =
      record {
        starts = x.starts;
        fresh = x.fresh;
        on = λ h n k. let o = x.on h n k in record { talker = o.talker; frame = o.frame; seen = o.seen; again = o.again };
      }

-- ---- loop frames

-- while a status byte is under way, nothing is asked for
busy_talking : (s : State) (f : ℕ) → eqb s.talker.role.phase 3 ≡ true → (is_send s f ≡ false) × (asks_status s f ≡ false)
unfolding is_send asks_status
busy_talking s f k =
    let one : eqb s.talker.role.phase 1 ≡ false = ne_eqb s.talker.role.phase 1 (λ h. omega (arith, eqb-true s.talker.role.phase 3 k)) in
    let two : eqb s.talker.role.phase 2 ≡ false = ne_eqb s.talker.role.phase 2 (λ h. omega (arith, eqb-true s.talker.role.phase 3 k)) in (
      simp (one, two, and-false (eqb (data_of f) 96), and-false (eqb (control_of f) 5), and-false (equal_return s f)),
      simp (one, and-false (eqb (data_of f) 97), and-false (eqb (control_of f) 5)),
    )

module _ (e : Event) (w : World) (f : ℕ) where
  abbrev FrameNoted : Outcome → Type 0
  FrameNoted o = Noted e (on (loop_frame f)) w (said o.answer) o.state

  no_empties : (a : Said) → device_clear w.state f ≡ false → empties (on (loop_frame f)) w a ≡ false
  unfolding restarts clears
  no_empties a n = (λ i. taken a && n i) ∙ and-false (taken a)

  still_way : (a : Said) → is_frame a ≡ true → ends_way (on (loop_frame f)) a ≡ false → (is_data f || eqb (control_of f) 4) ≡ false
  unfolding ends_way
  still_way a t n = (λ i. sym (frame_taken_lem a t) i && (is_data f || eqb (control_of f) 4)) ∙ n

  frame_noted : (o : Outcome) → Kind w.state w.rx f o → is_frame (said o.answer) ≡ true → FrameNoted o
  unfolding send_status ended talking cleared added_state status.after_status status.after_status_back ends_way said
  frame_noted o (is_sent m) t =
      left e (on (loop_frame f)) w _ _ (no_empties _ m.clear) (λ h. ap (λ (n : Notes). noted e n.seen) (send_notes w.state w.rx f) ∙ h)
      (λ _ k. absurd (false≢true (sym (busy_talking w.state f k).0 ∙ m.send)))
  frame_noted o (is_status m) t =
      left e (on (loop_frame f)) w _ _ (no_empties _ m.clear) (λ h. h)
      (λ _ k. absurd (false≢true (sym (busy_talking w.state f k).1 ∙ m.status)))
  frame_noted o (is_back m d) t =
      left e (on (loop_frame f)) w _ _ (no_empties _ m.clear)
      (never_noted w.state.notes.seen w.state.notes.again (data_of w.state.talker.under.frame) e)
      (λ n _. absurd (false≢true (sym n ∙ (λ i. d i || eqb (control_of f) 4))))
  frame_noted o (is_cleared m c) t = begun e (on (loop_frame f)) w _ _ ((λ i. is_data f || c i) ∙ or-true (is_data f)) (none_noted e)
  frame_noted o (is_kept m d l) t =
      left e (on (loop_frame f)) w _ _ (no_empties _ m.clear) (λ h. h) (λ n _. absurd (false≢true (sym n ∙ (λ i. d i || eqb (control_of f) 4))))
  frame_noted o (is_other u k p m x) t =
      left e (on (loop_frame f)) w _ _ (no_empties _ m.clear) (λ h. ap (λ (n : Notes). noted e n.seen) x.notes ∙ h)
      (λ n _.
      let y = x.way (still_way (said (Frame k)) t n) in
      record {
        talker = y.0;
        frame = y.1;
        seen = ap (λ (n : Notes). noted e n.seen) x.notes;
        again = ap (λ (n : Notes). noted e n.again) x.notes;
      })

-- ---- every call

unmoved : (e : Event) (s : State) → On e s s
unmoved e s = record { talker = refl; frame = refl; seen = refl; again = refl }

asked_noted : (e : Event) (w : World) (a : Said) → Noted e (on ask_line_byte) w a (settled w.state w.state)
unfolding settled restarts clears
asked_noted e w a = kept e (on ask_line_byte) w a _ refl (record { talker = refl; frame = refl; seen = refl; again = refl })

gone_noted : (e : Event) (b : ℕ) (w : World) (a : Said) (o : Option Next) → Noted e (on (take_line_byte b)) w a (settled w.state (gone w.state o))
unfolding gone settled restarts clears
gone_noted e b w a (Some (out.Own x)) = kept e (on (take_line_byte b)) w a _ refl (record { talker = refl; frame = refl; seen = refl; again = refl })
gone_noted e b w a (Some (out.Held x)) = kept e (on (take_line_byte b)) w a _ refl (record { talker = refl; frame = refl; seen = refl; again = refl })
gone_noted e b w a None = kept e (on (take_line_byte b)) w a _ refl (record { talker = refl; frame = refl; seen = refl; again = refl })

line_noted : (e : Event) (w : World) (b : ℕ) (t u : Bool) → is_go_or_stop w.state.regs b ≡ t → full w.state.rx ≡ u →
    Noted e (on (line_byte b)) w done (settled w.state (cond t (flowed w.state b) (cond u (lost_state w.state) (stored_state w.state))))
unfolding flowed lost_state stored_with settled restarts clears lost arrived is_flow is_go_or_stop
line_noted e w b true u p q = kept e (on (line_byte b)) w done _ refl (record { talker = refl; frame = refl; seen = refl; again = refl })
line_noted e w b false false p q = kept e (on (line_byte b)) w done _ refl (record { talker = refl; frame = refl; seen = refl; again = refl })
line_noted broken w b false true p q = kept broken (on (line_byte b)) w done _ refl (record { talker = refl; frame = refl; seen = refl; again = refl })
line_noted overrun w b false true p q = happened overrun (on (line_byte b)) w done _ refl (λ i. any (cond (q i) (cond (not (p i)) (b ∷ []) []) []))
line_noted pressed w b false true p q = kept pressed (on (line_byte b)) w done _ refl (record { talker = refl; frame = refl; seen = refl; again = refl })

write_noted : (e : Event) (w : World) (n v : ℕ) → Noted e (on (write n v)) w done (settled w.state (after_write w.state n (written w.state.regs n v)))
unfolding after_write set_afresh settled restarts clears
write_noted e w n v =
    by_cond (λ (t : State). Noted e (on (write n v)) w done (settled w.state t)) (eqb n 11) _ _
    (λ _. kept e (on (write n v)) w done _ refl (record { talker = refl; frame = refl; seen = refl; again = refl }))
    (λ _. kept e (on (write n v)) w done _ refl (record { talker = refl; frame = refl; seen = refl; again = refl }))

refused_noted : (e : Event) (c : Call) (w : World) (n : ℕ) → Noted e c w (refused n) w.state
unfolding restarts clears
refused_noted e (create m) w n = kept e (create m) w (refused n) _ refl (unmoved e w.state)
refused_noted e (on reset) w n = kept e (on reset) w (refused n) _ refl (unmoved e w.state)
refused_noted e (on (write k v)) w n = kept e (on (write k v)) w (refused n) _ refl (unmoved e w.state)
refused_noted e (on (line_byte b)) w n = kept e (on (line_byte b)) w (refused n) _ refl (unmoved e w.state)
refused_noted e (on line_break) w n = kept e (on line_break) w (refused n) _ refl (unmoved e w.state)
refused_noted e (on key) w n = kept e (on key) w (refused n) _ refl (unmoved e w.state)
refused_noted e (on ask_line_byte) w n = kept e (on ask_line_byte) w (refused n) _ refl (unmoved e w.state)
refused_noted e (on (take_line_byte b)) w n = kept e (on (take_line_byte b)) w (refused n) _ refl (unmoved e w.state)
refused_noted e (on (loop_frame f)) w n = kept e (on (loop_frame f)) w (refused n) _ refl (unmoved e w.state)
refused_noted e (show side) w n = kept e (show side) w (refused n) _ refl (unmoved e w.state)

noted_or : (e : Event) (c : Call) (w : World) (n : ℕ) (d : Did) → (n ≡ 0 → Noted e c w d.said d.world.state) →
    Noted e c w (refused_or n d w).said (refused_or n d w).world.state
noted_or e c w n d = or_refused (λ (x : Did). Noted e c w x.said x.world.state) n d w (refused_noted e c w n)

notes : (e : Event) (c : Call) (w : World) → Noted e c w (answer c w) (after c w).state
unfolding step calls.not_refused outcome settled_by said line_state break_state key_state start_state restarts clears ends_way
notes e (create m) w = noted_or e (create m) w _ _ (λ _. begun e (create m) w done _ refl (none_noted e))
notes e (on reset) w = noted_or e (on reset) w _ _ (λ _. settled_noted e (on reset) w done false _ (begun e (on reset) w done _ refl (none_noted e)))
notes e (on (write n v)) w = noted_or e (on (write n v)) w _ _ (λ _. write_noted e w n v)
notes e (on (line_byte b)) w =
    noted_or e (on (line_byte b)) w _ _ (λ _. line_noted e w b (is_go_or_stop w.state.regs b) (full w.state.rx) refl refl)
notes broken (on line_break) w = noted_or broken (on line_break) w _ _ (λ _. happened broken (on line_break) w done _ refl refl)
notes overrun (on line_break) w =
    noted_or overrun (on line_break) w _ _
    (λ _. settled_noted overrun (on line_break) w done false _
    (kept overrun (on line_break) w done _ refl (record { talker = refl; frame = refl; seen = refl; again = refl })))
notes pressed (on line_break) w =
    noted_or pressed (on line_break) w _ _
    (λ _. settled_noted pressed (on line_break) w done false _
    (kept pressed (on line_break) w done _ refl (record { talker = refl; frame = refl; seen = refl; again = refl })))
notes broken (on key) w =
    noted_or broken (on key) w _ _
    (λ _. settled_noted broken (on key) w done false _
    (kept broken (on key) w done _ refl (record { talker = refl; frame = refl; seen = refl; again = refl })))
notes overrun (on key) w =
    noted_or overrun (on key) w _ _
    (λ _. settled_noted overrun (on key) w done false _
    (kept overrun (on key) w done _ refl (record { talker = refl; frame = refl; seen = refl; again = refl })))
notes pressed (on key) w = noted_or pressed (on key) w _ _ (λ _. happened pressed (on key) w done _ refl refl)
notes e (on ask_line_byte) w = noted_or e (on ask_line_byte) w _ _ (λ _. asked_noted e w _)
notes e (on (take_line_byte b)) w = noted_or e (on (take_line_byte b)) w _ _ (λ _. gone_noted e b w _ (next_out w.state w.tx))
notes e (on (loop_frame f)) w =
    noted_or e (on (loop_frame f)) w _ _
    (λ x. settled_noted e (on (loop_frame f)) w _ (device_clear w.state f) _
    (frame_noted e w f _ (kind_of f w (frame_fits f w x)) (frame_answers w.state w.rx f)))
notes e (show side) w = noted_or e (show side) w _ _ (λ _. kept e (show side) w _ _ refl (unmoved e w.state))

pub not_at_start : (e : Event) → Obeys ours (NotAtStart e)
not_at_start e c w B q = (notes e c w).starts q

pub not_invented : (e : Event) → Obeys ours (NotInvented e)
unfolding course.end machine.course
not_invented e [] w B k h n = h
not_invented e (c ∷ cs) w B k h n =
    let m = first_not (happens e) c cs w n in
    not_invented e cs (after c w) tt k.1 ((notes e c w).fresh m.0 h) m.1

-- ---- runs

stays_shown : (x : Bool) → stays x x false ≡ false
stays_shown true = refl
stays_shown false = refl

told_of : (e : Event) (x y : Events) (d : ℕ) → noted e x ≡ showed d (weight_of e) → noted e y ≡ false → noted e (acknowledged x y d) ≡ false
told_of broken x y d p q = (λ i. stays x.brk (sym p i) (q i)) ∙ stays_shown x.brk
told_of overrun x y d p q = (λ i. stays x.overrun (sym p i) (q i)) ∙ stays_shown x.overrun
told_of pressed x y d p q = (λ i. stays x.key (sym p i) (q i)) ∙ stays_shown x.key

module _ (e : Event) (g : ℕ) where
  -- the status byte g is under way, it showed what is noted of e, and that did not happen again
  record Way (s : State) : Type 0 where
    talker : eqb s.talker.role.phase 3 ≡ true
    frame : g ≡ stripped s.talker.under.frame
    shown : noted e s.notes.seen ≡ showed (data_of s.talker.under.frame) (weight_of e)
    again : noted e s.notes.again ≡ false

  way_on : (s t : State) → On e s t → Way s → Way t
  way_on s t o y =
      record {
        talker = ap (λ (n : ℕ). eqb n 3) o.talker ∙ y.talker;
        frame = y.frame ∙ ap stripped (sym o.frame);
        shown = o.seen ∙ y.shown ∙ ap (λ (n : ℕ). showed (data_of n) (weight_of e)) (sym o.frame);
        again = o.again ∙ y.again;
      }

  run_on : (cs : List Call) (w : World) → Way w.state → Without (happens e) cs w → Without (λ c w a. ends_way c a) cs w → Way (end cs w).state
  unfolding course.end machine.course
  run_on [] w y h n = y
  run_on (c ∷ cs) w y h n =
      let k = first_not (happens e) c cs w h in
      let m = first_not (λ c w a. ends_way c a) c cs w n in
      run_on cs (after c w) (way_on w.state (after c w).state ((notes e c w).on k.0 m.0 y.talker) y) k.1 m.1

-- it comes back
returned_clear : (e : Event) (s : State) (rx : List ℕ) (f : ℕ) → eqb s.talker.role.phase 3 ≡ true → is_data f ≡ true → same_apart f s.talker.under.frame ≡ true →
    noted e (acknowledged s.notes.seen s.notes.again (data_of s.talker.under.frame)) ≡ false → Clear e (frame_taken s rx f).state
unfolding frame_taken returned judged return_of ended talking status.after_status_back
returned_clear e s rx f T D m q =
    let a : is_active s.talker.role ≡ true = le-leb 2 s.talker.role.phase (omega (arith, eqb-true s.talker.role.phase 3 T)) in
    rw (D, a, m, T) q

back : (e : Event) (g : ℕ) (w : World) (r : ℕ) → Way e g w.state → status_back (g ∷ []) (on (loop_frame r)) (answer (on (loop_frame r)) w) ≡ true →
    Clear e (after (on (loop_frame r)) w).state
unfolding status_back step calls.not_refused outcome settled_by settled
back e g w r y =
    or_refused (λ (d : Did). (taken d.said && (is_data r && same_apart r g)) ≡ true → Clear e d.world.state)
    (first_refusal (checks (on (loop_frame r)) w)) (calls.not_refused (on (loop_frame r)) w) w
    (λ q. absurd (false≢true q))
    (λ _ q. by_cond (Clear e) (device_clear w.state r) _ _ (λ _. come q) (λ _. come q))
  where
    come : (taken (said (frame_taken w.state w.rx r).answer) && (is_data r && same_apart r g)) ≡ true → Clear e (frame_taken w.state w.rx r).state
    come q =
        let p : (is_data r && same_apart r g) ≡ true = and_right (taken (said (frame_taken w.state w.rx r).answer)) _ q in
        returned_clear e w.state w.rx r y.talker (and_left _ _ p)
        (stripped_same r w.state.talker.under.frame
        (same_stripped r g (and_right (is_data r) _ p) ∙ ap stripped y.frame ∙ stripped_twice w.state.talker.under.frame))
        (told_of e w.state.notes.seen w.state.notes.again (data_of w.state.talker.under.frame) y.shown y.again)

-- it is sent
status_way : (e : Event) (g : ℕ) (s : State) → data_frame (said (send_status s).answer) ≡ g ∷ [] → Way e g (send_status s).state
unfolding send_status talking status.after_status
status_way e g s q =
    let z : stripped (made 0 (status_of s)) ∷ [] ≡ g ∷ [] = sym (status_frame s) ∙ q in
    let d : data_of (made 0 (status_of s)) ≡ status_of s = omega (arith, status_small s) in
    record {
      talker = refl;
      frame = cc;
      shown = sym (event_shown e s) ∙ ap (λ (n : ℕ). showed n (weight_of e)) (sym d);
      again = none_noted e;
    }

settled_way : (e : Event) (g : ℕ) (s : State) (t : Bool) (u : State) → Way e g u → Way e g (cond t u (settled s u))
unfolding settled
settled_way e g s true u y = y
settled_way e g s false u y = record { talker = y.talker; frame = y.frame; shown = y.shown; again = y.again }

no_head : (g : ℕ) (t : Bool) → ◌≡◌ {A = List ℕ} (cond t [] []) (g ∷ []) → ⊥
no_head g true q = let z : ◌≡◌ {A = List ℕ} [] (g ∷ []) = q in false≢true (ap any z)
no_head g false q = let z : ◌≡◌ {A = List ℕ} [] (g ∷ []) = q in false≢true (ap any z)

sent_way : (e : Event) (f g : ℕ) (w : World) → status_sent (on (loop_frame f)) w (answer (on (loop_frame f)) w) ≡ g ∷ [] →
    Way e g (after (on (loop_frame f)) w).state
unfolding status_sent step calls.not_refused outcome settled_by
sent_way e f g w =
    or_refused (λ (d : Did). cond (asks_status w.state f) (data_frame d.said) [] ≡ g ∷ [] → Way e g d.world.state)
    (first_refusal (checks (on (loop_frame f)) w)) (calls.not_refused (on (loop_frame f)) w) w
    (λ q. absurd (no_head g (asks_status w.state f) q))
    (λ x q. settled_way e g w.state (device_clear w.state f) _ (asked (asks_status w.state f) refl (kind_of f w (frame_fits f w x)) q))
  where
    asked : (t : Bool) → asks_status w.state f ≡ t → Kind w.state w.rx f (frame_taken w.state w.rx f) →
        cond t (data_frame (said (frame_taken w.state w.rx f).answer)) [] ≡ g ∷ [] → Way e g (frame_taken w.state w.rx f).state
    asked true a x q =
        let k = sends_status w.state w.rx f _ x a in
        subst (λ (o : Outcome). Way e g o.state) (sym k) (status_way e g w.state (ap (λ (o : Outcome). data_frame (said o.answer)) (sym k) ∙ q))
    asked false a x q = absurd (no_head g true q)

clear : (e : Event) (g f : ℕ) (w : World) → status_sent (on (loop_frame f)) w (answer (on (loop_frame f)) w) ≡ g ∷ [] → (cs : List Call) →
    Without (happens e) cs (after (on (loop_frame f)) w) → Without (λ c w a. ends_way c a) cs (after (on (loop_frame f)) w) → (d : Call) →
    status_back (g ∷ []) d (answer d (end cs (after (on (loop_frame f)) w))) ≡ true → bit_of e (after d (end cs (after (on (loop_frame f)) w))) ≡ false
unfolding status_back
clear e g f w q cs h n =
    frame_or (λ d. status_back (g ∷ []) d (answer d v) ≡ true → bit_of e (after d v) ≡ false)
    (λ r b. back e g v r (run_on e g cs (after (on (loop_frame f)) w) (sent_way e f g w q) h n) b)
    (λ d x b. absurd (false≢true (sym (off_frame _ false d x) ∙ b)))
  where
    v : World
    v = end cs (after (on (loop_frame f)) w)

pub events_clear : (e : Event) → Obeys ours (Clears e)
unfolding status_sent
events_clear e c cs d w B j k =
    at_left
    (λ v. (g : ℕ) → status_sent c w (answer c w) ≡ g ∷ [] → Without (happens e) cs (after c w) → Without (λ c w a. ends_way c a) cs (after c w) →
    status_back (g ∷ []) d (answer d v) ≡ true → bit_of e (after d v) ≡ false)
    cs (after c w)
    (frame_or
    (λ c. (g : ℕ) → status_sent c w (answer c w) ≡ g ∷ [] → Without (happens e) cs (after c w) → Without (λ c w a. ends_way c a) cs (after c w) →
    status_back (g ∷ []) d (answer d (end cs (after c w))) ≡ true → bit_of e (after d (end cs (after c w))) ≡ false)
    (λ f g q h n. clear e g f w q cs h n d)
    (λ c x g q. absurd (no_head g true (sym (off_frame _ [] c x) ∙ q)))
    c)
