-- Each line byte taken leaves less to take, so that enough asks end with none. Assumes nothing.
use Prim.Native.Nat.{ℕ, zero, suc, ◌+◌, ◌-◌, ◌≤◌, ◌<◌}
use native.Mathlib.Omega.{arith}
use mathlib.Core.Path.{◌≡◌, refl, sym, ap, subst, ◌∙◌}
use mathlib.Core.Bool.{Bool, true, false, cond, ◌||◌, false≢true}
use mathlib.Core.List.{List, [], ◌∷◌}
use lib.ListN.{length, get_or}
use lib.Dec.{eqb}
use borrow.Author.Tests.{eqb-false}
use Rattle.branches.proofs.Branches.{by_cond}
use Rattle.registers.specs.Meanings.{go, stop}
use Rattle.store.specs.Ring.{held, drop_ring}
use Rattle.state.specs.declared.State.{State}
use Rattle.std.specs.Prelude.{Option, Some, None}
use Rattle.state.specs.declared.Next.{Next}
use Rattle.state.specs.declared.Next.TheVariants.{Own, Held}
use Rattle.answers.specs.Answers.{Said, said, done, none, byte, frame, refused, part, cell, lines, is_byte, byte_in}
use Rattle.state.specs.Sizes.{TxFits}
use Rattle.state.specs.Conditions.{settled}
use Rattle.state.proofs.Fits.{tx_fits}
use Rattle.line.specs.HoldingOff.{owed, next_out, is_next, gone, out_answer}
use Rattle.bridge.specs.Calls.{on, ask_line_byte, take_line_byte, next_of, World, Did, outcome, settled_by, not_refused, step, ask_answer}
use Rattle.bridge.proofs.Asks.{ask_fits, take_fits, ask_leaves, asked_next}
use Rattle.laws.specs.Fitting.{Fits}
use Rattle.laws.proofs.Fitting.{keeps_fit}
use Rattle.transcript.specs.Transcript.{then_takes, take_answer, next_taken, line_out, asks}
use Rattle.transcript.specs.UntilNone.{line_world, Enough}

-- how much there is to take: the bytes held, and the go or stop that is owed
abbrev pub weight : State → ℕ
weight s = s.tx.len + cond (owed s.line) 1 0

paid : (h f : Bool) → owed (record { holding = h; forbidden = f; stopped = h }) ≡ false
paid true f = refl
paid false f = refl

or_right : (a b : Bool) → (a || b) ≡ false → b ≡ false
or_right false b e = e
or_right true b e = absurd (false≢true (sym e))

module _ (b : ℕ) where
  abbrev Falls : State → Option Next → Type 0
  Falls s o = is_next o b ≡ true → weight (gone s o) < weight s

  falls : (s : State) (tx : List ℕ) → Falls s (next_out s tx)
  unfolding next_out is_next gone drop_ring
  falls s tx =
      by_cond (Falls s) (owed s.line) (Some (Own (cond s.line.holding (stop s.regs) (go s.regs)))) _
      (λ e h. rw (e, paid s.line.holding s.line.forbidden) (omega arith))
      (λ e. by_cond (Falls s) (s.line.forbidden || eqb s.tx.len 0) None (Some (Held (get_or (held tx s.tx) 0 0)))
      (λ q h. absurd (false≢true h))
      (λ q h. let some = eqb-false s.tx.len 0 (or_right s.line.forbidden (eqb s.tx.len 0) q) in rw e (fewer s.tx.len some)))
    where
      fewer : (n : ℕ) → (n ≡ 0 → ⊥) → n - 1 + 0 < n + 0
      fewer zero h = absurd (h refl)
      fewer (suc k) h = omega arith

is_byte_lem : (a : Said) → is_byte a ≡ true → a ≡ byte (byte_in a)
unfolding is_byte byte_in
is_byte_lem (byte b) e = refl
is_byte_lem done e = absurd (false≢true e)
is_byte_lem none e = absurd (false≢true e)
is_byte_lem (frame k d) e = absurd (false≢true e)
is_byte_lem (refused n) e = absurd (false≢true e)
is_byte_lem (part l) e = absurd (false≢true e)
is_byte_lem (cell n) e = absurd (false≢true e)
is_byte_lem (lines n) e = absurd (false≢true e)

-- a byte that was asked for is taken
next_taken_lem : (w : World) → is_byte (ask_answer w) ≡ true → then_takes w ≡ not_refused (on (take_line_byte (byte_in (ask_answer w)))) w
next_taken_lem w h =
    let x = asked_next (byte_in (ask_answer w)) w (is_byte_lem (ask_answer w) h) in
    ap (step (on (take_line_byte (byte_in (ask_answer w))))) (ask_leaves w) ∙ take_fits (byte_in (ask_answer w)) w x.0 x.1

pub take_done : (w : World) → is_byte (ask_answer w) ≡ true → take_answer w ≡ done
unfolding not_refused outcome said
take_done w h = ap (λ (d : Did). d.said) (next_taken_lem w h)

-- and leaves less
step_falls : (w : World) → is_byte (ask_answer w) ≡ true → weight (next_taken w).state < weight w.state
unfolding not_refused outcome settled_by settled
step_falls w h =
    let x = asked_next (byte_in (ask_answer w)) w (is_byte_lem (ask_answer w) h) in
    subst (λ (d : Did). weight d.world.state < weight w.state) (sym (next_taken_lem w h)) (falls (byte_in (ask_answer w)) w.state w.tx x.1)

-- ---- no byte left to take

-- a state that fits is not refused, so that an answer which is no byte is none
no_byte : (w : World) → Fits w → is_byte (ask_answer w) ≡ false → ask_answer w ≡ none
unfolding is_byte said out_answer
no_byte w e =
    subst (λ (d : Did). is_byte d.said ≡ false → d.said ≡ none) (sym (ask_fits w e)) (go (next_of w))
  where
    go : (o : Option Next) → is_byte (said (out_answer o)) ≡ false → said (out_answer o) ≡ none
    go (Some (Own b)) h = absurd (false≢true (sym h))
    go (Some (Held b)) h = absurd (false≢true (sym h))
    go None h = refl

taken_fits : (w : World) → Fits w → Fits (next_taken w)
taken_fits w e = keeps_fit (on (take_line_byte (byte_in (ask_answer w)))) (step (on ask_line_byte) w).world tt (keeps_fit (on ask_line_byte) w tt e)

-- more asks than there is to take end with none
pub until_none : (n : ℕ) (w : World) → Fits w → weight w.state < n → ask_answer (line_world n w) ≡ none
unfolding line_world
until_none zero w e h = absurd (omega arith)
until_none (suc k) w e h =
    by_cond (λ (v : World). ask_answer v ≡ none) (is_byte (ask_answer w)) _ _
    (λ t. until_none k (next_taken w) (taken_fits w e) (omega (arith, step_falls w t)))
    (λ t. no_byte w e t)

-- asks after none say nothing more
pub no_more : (n m : ℕ) (w : World) → n ≤ m → is_byte (ask_answer (line_world n w)) ≡ false → line_out m w ≡ line_out n w
unfolding line_out line_world
no_more zero zero w l h = refl
no_more zero (suc m) w l h = rw h
no_more (suc n) zero w l h = absurd (omega arith)
no_more (suc n) (suc m) w l h = pick (no_more n m (next_taken w) (omega arith)) (is_byte (ask_answer w)) refl
  where
    pick : (is_byte (ask_answer (line_world n (next_taken w))) ≡ false → line_out m (next_taken w) ≡ line_out n (next_taken w)) →
        (t : Bool) → is_byte (ask_answer w) ≡ t →
        cond (is_byte (ask_answer w)) (byte_in (ask_answer w) ∷ line_out m (next_taken w)) []
        ≡ cond (is_byte (ask_answer w)) (byte_in (ask_answer w) ∷ line_out n (next_taken w)) []
    pick more true e = rw e (ap (λ (bs : List ℕ). byte_in (ask_answer w) ∷ bs) (more (rw e at h)))
    pick more false e = rw e

at_most_one : (b : Bool) → cond b 1 0 ≤ 1
at_most_one true = omega arith
at_most_one false = omega arith

-- the asks of the program are enough for every state that fits its stores
pub asks_enough : (w : World) → Fits w → length w.tx ≡ 64 → Enough w
unfolding is_byte
asks_enough w e h =
    let f : TxFits w.state w.tx = tx_fits w.state w.rx w.tx e in
    let last : ask_answer (line_world asks w) ≡ none =
    until_none asks w e (omega (arith, f.ring.cap, f.ring.within.len, at_most_one (owed w.state.line))) in
    record { answer = last; takes_done = λ n h. take_done (line_world n w) h; same = λ n k. no_more asks n w k (ap is_byte last) }
