-- Returns on the loop are judged by the frame that was answered. Assumes nothing.
use Prim.Native.Nat.{ℕ}
use native.Mathlib.Omega.{arith}
use mathlib.Core.Path.{◌≡◌, refl, sym, ap, subst, ◌∙◌}
use mathlib.Core.Bool.{Bool, true, false, cond, ◌||◌, or-true, false≢true}
use lib.Dec.{eqb, leb}
use borrow.Author.Tests.{eq-eqb, ne_eqb, le-leb}
use Rattle.branches.proofs.Branches.{cond_true}
use Rattle.machine.specs.Course.{some}
use Rattle.machine.specs.Machine.{Obeys, seen, course, finally}
use Rattle.machine.proofs.Course.{neither}
use Rattle.frame.specs.Frame.{is_data, stripped, same_apart}
use Rattle.role.specs.Role.{is_active}
use Rattle.talker.specs.Returning.{return_of}
use Rattle.answers.specs.Answers.{Said, said, frame}
use Rattle.mailloop.specs.Sends.{ended}
use Rattle.mailloop.specs.Messages.{judged, data_taken, frame_taken}
use Rattle.mailbox.specs.Calls.{loop_frame, Call, on}
use Rattle.mailbox.specs.Calls.{World, Did, outcome, not_refused, step}
use Rattle.maillaws.specs.Mailboxes.{mailbox}
use Rattle.maillaws.specs.Sights.{to_loop, any, taken, fetched}
use Rattle.maillaws.specs.Giving.{asks_loop}
use Rattle.maillaws.specs.OwnReturns.{finishes, Judged, ReturnsJudged}
use Rattle.maillaws.proofs.Refusal.{by_refusal}
use Rattle.maillaws.proofs.Given.{loop_given}
use Rattle.maillaws.proofs.OwnRuns.{Under, run_on}
use Rattle.maillaws.proofs.OwnStarts.{from_store, begins}

module _ (k : Bool) (g : ℕ) (z e : Bool) (v : World) (u : Under k g z e v.state) (r : ℕ) (D : is_data r ≡ true) where
  active : is_active v.state.talker.role ≡ true
  active = go k u.phase
    where
      go : (k : Bool) → v.state.talker.role.phase ≡ cond k 3 2 → leb 2 v.state.talker.role.phase ≡ true
      go true p = le-leb 2 v.state.talker.role.phase (omega arith)
      go false p = le-leb 2 v.state.talker.role.phase (omega arith)

  -- compared with what is under way, and with what was answered
  same_as : same_apart r v.state.talker.under.frame ≡ same_apart r g
  unfolding same_apart
  same_as = ap (λ (n : ℕ). eqb (stripped r) n) u.frame

  abbrev answered : Said
  answered = said (frame_taken v.state v.toloop r).answer

  is_damaged : same_apart r g ≡ false → answered ≡ frame 5 65
  unfolding frame_taken data_taken return_of judged ended said
  is_damaged n = rw (D, active, same_as ∙ n)

  is_ended : same_apart r g ≡ true → (k || e) ≡ true → answered ≡ frame 5 64
  unfolding frame_taken data_taken return_of judged ended said
  is_ended m h = go k u.phase u.finishing h
    where
      go : (k : Bool) → v.state.talker.role.phase ≡ cond k 3 2 → (k ≡ false → v.state.talker.under.finishing ≡ e) → (k || e) ≡ true →
          answered ≡ frame 5 64
      go true p n h = rw (D, active, same_as ∙ m, eq-eqb v.state.talker.role.phase 3 p)
      go false p n h = rw (D, active, same_as ∙ m, ne_eqb v.state.talker.role.phase 3 (λ q. omega arith), n refl ∙ h)

  -- the next that waits is asked for
  asks : same_apart r g ≡ true → (k || e) ≡ false → z ≡ true → asks_loop v r ≡ true
  asks m h q =
      let n = neither k e h in
      rw (D, same_as ∙ m, eq-eqb v.state.talker.role.phase 2 (u.phase ∙ (λ i. cond (n.0 i) 3 2)), u.finishing n.0 ∙ n.1, u.source q, or-true)

  store : z ≡ true → from_store v r g ≡ true
  store q = rw (D, active, u.source q, or-true)

pub returns_judged : Obeys (mailbox step) ReturnsJudged
unfolding fetched not_refused outcome
returns_judged c cs d w _ _ _ k g r o n q D t =
    subst (λ (x : Call). taken (step x v).said ≡ true → Judged g r k last (seen (mailbox step) c w) (seen (mailbox step) x v)) (sym q) right t
  where
    v : World
    v = finally (mailbox step) cs (step c w).world

    last : Bool
    last = some finishes (course (mailbox step) cs (step c w).world)

    z : Bool
    z = any (fetched to_loop c w (step c w).said)

    u : Under k g z last v.state
    u = run_on k g z false cs (step c w).world (begins k g c w o) n

    by_frame : (P : Said → Type 0) → P (said (frame_taken v.state v.toloop r).answer) → taken (step (on (loop_frame r)) v).said ≡ true →
        P (step (on (loop_frame r)) v).said
    by_frame P p = by_refusal (λ (x : Did). taken x.said ≡ true → P x.said) (on (loop_frame r)) v (λ _ _. p) (λ _ h. absurd (false≢true h))

    right : taken (step (on (loop_frame r)) v).said ≡ true → Judged g r k last (seen (mailbox step) c w) (seen (mailbox step) (on (loop_frame r)) v)
    right t =
        record {
          damaged = λ x. by_frame (λ a. a ≡ frame 5 65) (is_damaged k g z _ v u r D x) t;
          ended = λ x y. by_frame (λ a. a ≡ frame 5 64) (is_ended k g z _ v u r D x y) t;
          next = λ x y h.
              let l = loop_given (on (loop_frame r)) v tt r refl t (asks k g z _ v u r D x y h) in
              (sym (cond_true _ _ _ (store k g z _ v u r D h)) ∙ l.0.first, l.1);
        }
