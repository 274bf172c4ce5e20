-- The last of go and stop that we sent is what the bridge recorded. Assumes nothing.
use Prim.Native.Nat.{ℕ}
use mathlib.Core.Path.{◌≡◌, refl, sym, ap, ◌∙◌}
use mathlib.Core.Bool.{Bool, true, false, cond, ◌&&◌, ◌||◌}
use mathlib.Core.List.{List, [], ◌∷◌}
use lib.Dec.{eqb}
use lib.ListN.{get_or, length}
use borrow.Author.Tests.{eq-eqb, ne_eqb, eqb-true}
use Rattle.branches.proofs.Branches.{by_cond}
use Rattle.registers.specs.declared.Registers.{Registers}
use Rattle.registers.specs.Meanings.{go, stop}
use Rattle.registers.specs.Writing.{written}
use Rattle.registers.proofs.Fits.{fit_differ}
use Rattle.store.specs.Ring.{full, held}
use Rattle.std.specs.Prelude.{Option, Some, None}
use Rattle.sending.specs.Sending.{given_of, send_held}
use Rattle.state.specs.declared.State.{State}
use Rattle.state.specs.declared.Line.{Line}
use Rattle.state.specs.Outcome.{Outcome}
use Rattle.std.specs.Prelude.{Option, Some, None}
use Rattle.state.specs.declared.Next.{Next}
use Rattle.state.specs.declared.Next.TheVariants.{Own, Held}
use Rattle.answers.specs.Answers.{said, done}
use Rattle.state.specs.Sizes.{start_state}
use Rattle.state.specs.Conditions.{settled, break_state, key_state}
use Rattle.state.specs.Conditions as status
use Rattle.state.proofs.Fits.{tests}
use Rattle.line.specs.HoldingOff.{is_go_or_stop, flowed, lost_state, stored_with, line_state, resumed, set_afresh, after_write, owed, next_out, is_next, gone}
use Rattle.loopside.specs.LoopToLine.{added_state}
use Rattle.talker.specs.UnderWay.{talking}
use Rattle.loopside.specs.Sends.{rule_of, removed_state, send_state, send_from, send_status, ended}
use Rattle.loopside.specs.Frames.{obeyed, cleared, device_clear}
use Rattle.bridge.specs.Calls.{Call, on, create, reset, write, line_byte, line_break, key, ask_line_byte, take_line_byte}
use Rattle.bridge.specs.Calls.{loop_frame, show, next_of, World, Did, outcome, settled_by, refused_or, step, refusal}
use Rattle.bridge.specs.Calls as calls
use Rattle.laws.specs.Observers.{restarts, starts_anew}
use Rattle.laws.proofs.Refusing.{take_fitting}
use Rattle.laws.specs.LastSent.{last_of, recorded, LastKept, LastSince}
use Rattle.runs.proofs.Shapes.{Fits}
use Rattle.runs.proofs.FrameKinds.{Kind, is_sent, is_status, is_back, is_cleared, is_kept, is_other, kind_of}
use Rattle.runs.proofs.Refusals.{or_refused, frame_fits}
use Rattle.runs.proofs.Runs.{first_not}
use Rattle.runs.proofs.Steps.{answer, after, Without, last_sent, ours}
use Rattle.machine.specs.Machine as machine
use Rattle.laws.specs.LastSent as last
use Rattle.machine.specs.Course as course
use Rattle.machine.specs.Machine.{Obeys}

-- ---- calls that send nothing of our own

-- the state has the same record
abbrev Same : State → State → Type 0
Same s t = t.line.stopped ≡ s.line.stopped

line_same : (s : State) (b : ℕ) → Same s (line_state s b)
unfolding line_state flowed lost_state stored_with
line_same s b = by_cond (Same s) (is_go_or_stop s.regs b) _ _ (λ _. refl) (λ _. by_cond (Same s) (full s.rx) _ _ (λ _. refl) (λ _. refl))

write_same : (s : State) (n v : ℕ) → Same s (after_write s n (written s.regs n v))
unfolding after_write set_afresh
write_same s n v = by_cond (Same s) (eqb n 11) _ _ (λ _. refl) (λ _. refl)

module _ (s : State) (rx : List ℕ) (f : ℕ) where
  send_same : Same s (send_from s rx).state
  unfolding send_from send_state ended talking removed_state resumed
  send_same = go (given_of (send_held (rule_of s.regs) rx s.rx))
    where
      go : (g : Option ℕ) → Same s (send_state s (removed_state s rx) g).state
      go None = refl
      go (Some x) = refl

  frame_same : (o : Outcome) → Kind s rx f o → Same s o.state
  unfolding send_status ended talking cleared obeyed added_state status.after_status status.after_status_back
  frame_same o (is_sent m) = send_same
  frame_same o (is_status m) = refl
  frame_same o (is_back m d) = refl
  frame_same o (is_cleared m c) = refl
  frame_same o (is_kept m d l) = refl
  frame_same o (is_other t n p m x) = ap (λ (l : Line). l.stopped) x.line

  settled_same : (t : Bool) (u : State) → Same s u → Same s (cond t u (settled s u))
  unfolding settled
  settled_same true u e = e
  settled_same false u e = e

-- ---- our own character

-- go and stop are two characters
own_character : (h : Bool) (x y : ℕ) → (x ≡ y → ⊥) → h ≡ eqb (cond h y x) y
own_character true x y d = sym (eq-eqb y y refl)
own_character false x y d = sym (ne_eqb x y d)

module _ (w : World) (b : ℕ) where
  abbrev GoneKept : Option Next → Type 0
  GoneKept o = (gone w.state o).line.stopped ≡ last_of (recorded w) (on (take_line_byte b)) w done

  -- where one is owed, the byte taken is our own character
  gone_same : Fits w → is_next (next_of w) b ≡ true → GoneKept (next_of w)
  unfolding next_out is_next gone last_of
  gone_same F n =
      by_tests (owed w.state.line) (w.state.line.forbidden || eqb w.state.tx.len 0) refl n
    where
      g : Registers
      g = w.state.regs

      own : ℕ
      own = cond w.state.line.holding (stop w.state.regs) (go w.state.regs)

      differ : go w.state.regs ≡ stop w.state.regs → ⊥
      differ = fit_differ w.state.regs (tests w.state (length w.rx) (length w.tx) F).regs

      out : Bool → Bool → Option Next
      out t u = cond t (Some (Own (cond w.state.line.holding (stop w.state.regs) (go w.state.regs))))
          (cond u None (Some (Held (get_or (held w.tx w.state.tx) 0 0))))

      by_tests : (t u : Bool) → owed w.state.line ≡ t → is_next (out t u) b ≡ true → GoneKept (out t u)
      by_tests true u e n =
          own_character w.state.line.holding (go g) (stop g) differ ∙
          (λ i. cond (sym e i && sym (eq-eqb b own (sym (eqb-true own b n))) i) (eqb (eqb-true own b n i) (stop g)) (recorded w))
      by_tests false true e n = λ i. cond (sym e i && eqb b own) (eqb b (stop g)) (recorded w)
      by_tests false false e n = λ i. cond (sym e i && eqb b own) (eqb b (stop g)) (recorded w)

-- ---- every call

module _ (c : Call) (w : World) where
  -- at start it is go
  abbrev LastRight : Did → Type 0
  LastRight d = recorded d.world ≡ cond (starts_anew c w d.said) false (last_of (recorded w) c w d.said)

  refused_or_lem : (n : ℕ) (d : Did) → LastRight (refusal n w) → (n ≡ 0 → LastRight d) → LastRight (refused_or n d w)
  refused_or_lem n d = or_refused LastRight n d w

last_right : (c : Call) (w : World) → LastRight c w (step c w)
unfolding step calls.not_refused outcome settled_by settled said last_of restarts start_state break_state key_state
last_right (create m) w = refused_or_lem (create m) w _ _ refl (λ _. refl)
last_right (on reset) w = refused_or_lem (on reset) w _ _ refl (λ _. refl)
last_right (on (write n v)) w = refused_or_lem (on (write n v)) w _ _ refl (λ _. write_same w.state n v)
last_right (on (line_byte b)) w = refused_or_lem (on (line_byte b)) w _ _ refl (λ _. line_same w.state b)
last_right (on line_break) w = refused_or_lem (on line_break) w _ _ refl (λ _. refl)
last_right (on key) w = refused_or_lem (on key) w _ _ refl (λ _. refl)
last_right (on ask_line_byte) w = refused_or_lem (on ask_line_byte) w _ _ refl (λ _. refl)
last_right (on (take_line_byte b)) w = refused_or_lem (on (take_line_byte b)) w _ _ refl (λ e. let x = take_fitting b w e in gone_same w b x.0 x.1)
last_right (on (loop_frame f)) w =
    refused_or_lem (on (loop_frame f)) w _ _ refl
    (λ e. settled_same w.state w.rx f (device_clear w.state f) _ (frame_same w.state w.rx f _ (kind_of f w (frame_fits f w e))))
last_right (show side) w = refused_or_lem (show side) w _ _ refl (λ _. refl)

-- ---- runs

pub last_kept : Obeys ours LastKept
unfolding course.end last.last_sent machine.course
last_kept [] w B k n = refl
last_kept (c ∷ cs) w B k n =
    last_kept cs (after c w) tt k.1 m.1
    ∙ ap (λ k. last_sent k cs (after c w)) (last_right c w ∙ (λ i. cond (m.0 i) false (last_of (recorded w) c w (answer c w))))
  where
    m : (starts_anew c w (answer c w) ≡ false) × Without starts_anew cs (after c w)
    m = first_not starts_anew c cs w n

pub last_since : Obeys ours LastSince
last_since c cs w B j k b n =
    last_kept cs (after c w) tt k n
    ∙ ap (λ k. last_sent k cs (after c w)) (last_right c w ∙ (λ i. cond (b i) false (last_of (recorded w) c w (answer c w))))
