-- From what the parts of a call gave to the promise of the call, on plain values. Assumes nothing.
use Prim.Native.Nat.{ℕ, ◌<◌, ◌≤◌}
use native.Mathlib.Omega.{arith}
use mathlib.Core.Path.{◌≡◌, refl, sym, ap, ◌∙◌}
use mathlib.Core.List.{List, [], ◌∷◌}
use Rattle.std.specs.Prelude.{Result, Ok, Err, IsErrAnd}
use mathlib.Core.Bool.{Bool, true, false, cond, ◌||◌, not, or-false}
use lib.ListN.{length}
use borrow.Author.Tests.{ne_eqb, lt-ltb, le-ltb}
use Rattle.answers.specs.Refusals.{first_refusal}
use Rattle.store.specs.Ring.{room, run}
use Rattle.state.specs.declared.State.{State}
use Rattle.state.specs.Outcome.{Outcome}
use Rattle.answers.specs.declared.Answer.{Answer}
use Rattle.std.specs.Prelude.{Option}
use Rattle.state.specs.declared.Next.{Next}
use Rattle.answers.specs.declared.Refusal.{Refusal}
use Rattle.answers.specs.declared.Refusal.TheVariants as refusal
use Rattle.answers.specs.Answers.{said, said_by, refused, number_of}
use Rattle.state.specs.Sizes.{sizes_obeyed, start_state, fits}
use Rattle.loopside.specs.LoopToLine.{busy}
use Rattle.loopside.specs.Frames.{frame_settled, Framed}
use Rattle.line.specs.declared.Took.{Took}
use Rattle.line.specs.HoldingOff.{Taken, next_out, is_next, gone, out_answer}
use Rattle.status.specs.declared.Conditions.{Conditions}
use Rattle.status.specs.Status as status
use Rattle.state.specs.Conditions.{asking, with_request, settled, settled_outcome}
use Rattle.bridge.specs.declared.Told.{Told}
use Rattle.bridge.specs.Calls.{OnState, World, world, Did, did, told, looked, handed, checks_on, checks, rx_after, tx_after, room_of, step, unmade}
use Rattle.bridge.specs.Calls.{Store, store_of, ring_of, line_byte, ask_line_byte, take_line_byte, loop_frame, create, show, on}
use Rattle.registers.specs.Writing.{write_checks}
use Rattle.bridge.proofs.Checks.{write_refused, write_let}
use Rattle.bridge.specs.Calls.{Call, write, held_line, misfit, done_with, outcome, settled_by, shown, not_refused, refused_or}

-- ---- a call that changes nothing begins no request

-- nothing comes to hold where all is as it was
pub no_comes : (t : Bool) → status.comes t t ≡ false
no_comes true = refl
no_comes false = refl

pub no_begins : (c : Conditions) → status.begins c c ≡ false
no_begins c =
    λ i. (((((no_comes c.txempty i || no_comes c.txnotfull i) || no_comes c.rxnotempty i) || no_comes c.rxfull i) || no_comes c.brk i) ||
    no_comes c.overrun i) || no_comes c.key i

pub settled_same : (s : State) → settled s s ≡ s
unfolding settled
settled_same s = ap (with_request s) (ap (λ (t : Bool). s.notes.request || t) (no_begins (asking s)) ∙ or-false s.notes.request)

-- ---- what the parts gave

-- every refusal has a number above 0
some_number : (r : Refusal) → number_of r ≡ 0 → ⊥
some_number refusal.Sizes e = omega (arith, e)
some_number refusal.Misfit e = omega (arith, e)
some_number refusal.LargeFrame e = omega (arith, e)
some_number refusal.Busy e = omega (arith, e)
some_number refusal.NotCarried e = omega (arith, e)
some_number refusal.LargeValue e = omega (arith, e)
some_number refusal.BitNotCarried e = omega (arith, e)
some_number refusal.GoIsStop e = omega (arith, e)
some_number refusal.Malformed e = omega (arith, e)
some_number refusal.HeldLine e = omega (arith, e)
some_number refusal.NotNext e = omega (arith, e)
some_number refusal.LargeCommand e = omega (arith, e)

-- a call that gives the number of the first refusal, and leaves all as it was, did what it promises
pub refusal_met : (c : Call) (w : World) (r : Refusal) → number_of r ≡ first_refusal (checks c w) → looked (refused (number_of r)) w ≡ step c w
unfolding step refused_or
refusal_met c w r e = rw (← e, ne_eqb (number_of r) 0 (some_number r))

-- the check for a misfit gives 2, or lets through a state that fits
pub misfit_met : (c : OnState) (w : World) (r : Refusal) → number_of r ≡ first_refusal (misfit w ∷ []) → looked (refused (number_of r)) w ≡ step (on c) w
unfolding checks
misfit_met c w r e = refusal_met (on c) w r (go (fits w.state (length w.rx) (length w.tx)) e)
  where
    go : (t : Bool) → number_of r ≡ cond (not t) 2 0 → number_of r ≡ cond (not t) 2 (first_refusal (checks_on c w))
    go true e = absurd (some_number r e)
    go false e = e

-- the exits of a call at a refusal, of a misfit and of any other
module _ (s : State) (rx tx : List ℕ) (r : Refusal) where
  pub did_refused : (c : Call) (o : Result Outcome Refusal) → IsErrAnd o (λ x. x ≡ r) → looked (refused (number_of r)) (world s rx tx) ≡ step c (world s rx tx) →
      did s o rx tx ≡ step c (world s rx tx)
  did_refused c (Ok x) h e = absurd h
  did_refused c (Err x) h e = ap (λ (q : Refusal). looked (refused (number_of q)) (world s rx tx)) h ∙ e

  pub did_misfit : (c : OnState) (o : Result Outcome Refusal) → IsErrAnd o (λ x. x ≡ r) → number_of r ≡ first_refusal (misfit (world s rx tx) ∷ []) →
      did s o rx tx ≡ step (on c) (world s rx tx)
  did_misfit c o h e = did_refused (on c) o h (misfit_met c (world s rx tx) r e)

  pub told_misfit : (c : OnState) (o : Result Told Refusal) → IsErrAnd o (λ x. x ≡ r) → number_of r ≡ first_refusal (misfit (world s rx tx) ∷ []) →
      told s o rx tx ≡ step (on c) (world s rx tx)
  told_misfit c (Ok x) h e = absurd h
  told_misfit c (Err x) h e = ap (λ (q : Refusal). looked (refused (number_of q)) (world s rx tx)) h ∙ misfit_met c (world s rx tx) r e

  pub asked_misfit : (o : Result Answer Refusal) → IsErrAnd o (λ x. x ≡ r) → number_of r ≡ first_refusal (misfit (world s rx tx) ∷ []) →
      looked (said_by o) (world s rx tx) ≡ step (on ask_line_byte) (world s rx tx)
  asked_misfit (Ok x) h e = absurd h
  asked_misfit (Err x) h e = ap (λ (q : Refusal). looked (refused (number_of q)) (world s rx tx)) h ∙ misfit_met ask_line_byte (world s rx tx) r e

pub fit_found : (w : World) → 0 ≡ first_refusal (misfit w ∷ []) → fits w.state (length w.rx) (length w.tx) ≡ true
fit_found w e = go (fits w.state (length w.rx) (length w.tx)) e
  where
    go : (t : Bool) → ◌≡◌ {A = ℕ} 0 (cond (not t) 2 0) → t ≡ true
    go true e = refl
    go false e = absurd (omega (arith, e))

module _ (s : State) (rx tx : List ℕ) (e : fits s (length rx) (length tx) ≡ false) where
  pub show_misfit : (side : Store) → handed [] (world s rx tx) ≡ step (show side) (world s rx tx)
  unfolding step checks refused_or not_refused shown
  show_misfit side = rw e

module _ (s : State) (rx tx : List ℕ) (e : fits s (length rx) (length tx) ≡ true) where
  -- a state that fits, and no refusal after that: what is accepted was done
  pub fit_met : (c : OnState) (d : Did) → first_refusal (checks_on c (world s rx tx)) ≡ 0 → d ≡ not_refused (on c) (world s rx tx) →
      d ≡ step (on c) (world s rx tx)
  unfolding step checks refused_or
  fit_met c d h q = q ∙ sym (rw (e, h))

  -- a refusal after that
  pub later_met : (c : OnState) (r : Refusal) → number_of r ≡ first_refusal (checks_on c (world s rx tx)) →
      looked (refused (number_of r)) (world s rx tx) ≡ step (on c) (world s rx tx)
  unfolding checks
  later_met c r h = refusal_met (on c) (world s rx tx) r (h ∙ sym (rw e))

  -- one of the table of registers
  pub write_exit : (n v : ℕ) (r : Refusal) (o : Result Outcome Refusal) → IsErrAnd o (λ x. x ≡ r) → number_of r ≡ first_refusal (write_checks s.regs n v) →
      did s o rx tx ≡ step (on (write n v)) (world s rx tx)
  write_exit n v r o h q =
      let w : World = world s rx tx in
      did_refused s rx tx r (on (write n v)) o h (later_met (write n v) r (q ∙ sym (write_refused w n v (λ z. some_number r (q ∙ z)))))

  -- and where the line is held
  pub write_held : (n v : ℕ) → 0 ≡ first_refusal (write_checks s.regs n v) → held_line s n ≡ true →
      looked (refused 10) (world s rx tx) ≡ step (on (write n v)) (world s rx tx)
  write_held n v ok held = later_met (write n v) refusal.HeldLine (sym (write_let (world s rx tx) n v (sym ok) ∙ (λ i. cond (held i) 10 0)))

  -- a call that answers no more than done, and tells no room
  pub done_met : (c : OnState) (o : Outcome) (rx' tx' : List ℕ) (t : State) → first_refusal (checks_on c (world s rx tx)) ≡ 0 → ((q : State) → room_of c q ≡ 0) →
      done_with t ≡ outcome c (world s rx tx) → settled s t ≡ settled_by c s t → rx' ≡ rx_after c (world s rx tx) → tx' ≡ tx_after c (world s rx tx) →
      o ≡ settled_outcome s (done_with t) → did s (Ok o) rx' tx' ≡ step (on c) (world s rx tx)
  unfolding not_refused
  done_met c o rx' tx' t h none a b x y q = fit_met c (did s (Ok o) rx' tx') h (rw (q, b, x, y, ← a, none))

  -- a line byte, which tells the room of the receive store
  pub line_done : (b : ℕ) (t : Told) (k : Took) (rx' : List ℕ) → Taken s rx b rx' k → t.outcome ≡ settled_outcome s (done_with k.state) →
      t.room ≡ k.room → told s (Ok t) rx' tx ≡ step (on (line_byte b)) (world s rx tx)
  unfolding checks_on not_refused outcome settled_by settled rx_after tx_after room_of
  line_done b t k rx' p o r = fit_met (line_byte b) (told s (Ok t) rx' tx) refl (rw (o, r, p.room, p.state, p.bytes))

  -- the next line byte is asked for
  pub ask_done : (x : Option Next) (a : Answer) → x ≡ next_out s tx → a ≡ out_answer x → looked (said a) (world s rx tx) ≡ step (on ask_line_byte) (world s rx tx)
  unfolding checks_on not_refused outcome settled_by rx_after tx_after room_of
  ask_done x a p q = fit_met ask_line_byte (looked (said a) (world s rx tx)) refl (rw (q, p, settled_same s))

  -- a line byte is named that is not next
  pub take_refused : (b : ℕ) (x : Option Next) (t : Bool) → x ≡ next_out s tx → t ≡ is_next x b → not t ≡ true →
      looked (refused 12) (world s rx tx) ≡ step (on (take_line_byte b)) (world s rx tx)
  unfolding checks_on
  take_refused b x t p q r = later_met (take_line_byte b) refusal.NotNext (sym (rw (← p, ← q, r)))

  -- one that is
  pub take_done : (b : ℕ) (o : Outcome) (x : Option Next) (t : Bool) (u : State) → x ≡ next_out s tx → t ≡ is_next x b → not t ≡ false → u ≡ gone s x →
      o ≡ settled_outcome s (done_with u) → did s (Ok o) rx tx ≡ step (on (take_line_byte b)) (world s rx tx)
  unfolding checks_on outcome settled_by rx_after tx_after room_of
  take_done b o x t u p q r v z =
      done_met (take_line_byte b) o rx tx u (rw (← p, ← q, r)) (λ _. refl) (rw (v, p)) refl refl refl z

  pub frame_large : (f : ℕ) → 2047 < f → looked (refused 3) (world s rx tx) ≡ step (on (loop_frame f)) (world s rx tx)
  unfolding checks_on
  frame_large f h = later_met (loop_frame f) refusal.LargeFrame (sym (rw (lt-ltb 2047 f h)))

  pub frame_busy : (f : ℕ) → f ≤ 2047 → busy s f ≡ true → looked (refused 4) (world s rx tx) ≡ step (on (loop_frame f)) (world s rx tx)
  unfolding checks_on
  frame_busy f h b = later_met (loop_frame f) refusal.Busy (sym (rw (le-ltb 2047 f h, b)))

  -- a frame that is taken, which tells the room of the transmit store
  pub frame_done : (f : ℕ) (tx' : List ℕ) (t : Told) → f ≤ 2047 → busy s f ≡ false → Framed s rx tx f tx' t.outcome →
      t.room ≡ room t.outcome.state.tx → told s (Ok t) rx tx' ≡ step (on (loop_frame f)) (world s rx tx)
  unfolding checks_on not_refused outcome settled_by rx_after tx_after frame_settled room_of
  frame_done f tx' t h b q r = fit_met (loop_frame f) (told s (Ok t) rx tx') (rw (le-ltb 2047 f h, b)) (rw (r, q.outcome, q.bytes))

  pub show_fit : (side : Store) (p : List ℕ) → p ≡ run (store_of side (world s rx tx)) (ring_of side s) → handed p (world s rx tx) ≡ step (show side) (world s rx tx)
  unfolding step checks refused_or not_refused shown
  show_fit side p q = rw (q, e)

module _ (m : ℕ) (rx tx : List ℕ) where
  pub create_done : (t : State) → t ≡ start_state m (length rx) (length tx) → sizes_obeyed m (length rx) (length tx) ≡ true →
      did (unmade m rx tx).state (Ok (done_with t)) rx tx ≡ step (create m) (unmade m rx tx)
  unfolding step refused_or checks not_refused
  create_done t made e = rw (made, e)

  pub create_refused : sizes_obeyed m (length rx) (length tx) ≡ false → looked (refused 1) (unmade m rx tx) ≡ step (create m) (unmade m rx tx)
  unfolding checks
  create_refused e = refusal_met (create m) (unmade m rx tx) refusal.Sizes (sym (rw e))
