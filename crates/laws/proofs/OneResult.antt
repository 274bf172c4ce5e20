-- Two results that a promise allows are equal. Assumes nothing.
use Prim.Native.Nat.{ℕ}
use mathlib.Core.Path.{◌≡◌, refl, sym, ap, subst, ◌∙◌}
use mathlib.Core.Bool.{Bool, true, false, cond, false≢true}
use Rattle.std.specs.Prelude.{Result, Ok, Err}
use lib.Dec.{eqb}
use mathlib.Core.List.{List}
use lib.ListN.{length}
use Rattle.answers.specs.declared.Answer.{Answer}
use Rattle.answers.specs.declared.Refusal.{Refusal}
use Rattle.answers.specs.declared.Refusal.TheVariants as refusal
use Rattle.answers.specs.Answers.{Said, refused, part, said, said_by, number_of, is_refusal, fault_of}
use Rattle.answers.proofs.Answers.{said_one, answer_told}
use Rattle.state.specs.declared.State.{State}
use Rattle.state.specs.Outcome.{Outcome}
use Rattle.bridge.specs.declared.Told.{Told}
use Rattle.state.specs.Sizes.{sizes_obeyed, start_state}
use Rattle.bridge.specs.Calls.{create, Did, did, told, checks, not_refused, refused_or, step, Promised, unmade}
use Rattle.laws.proofs.Refusing.{by_refusal}
use Rattle.laws.specs.OneResult.{Same, OneResult, CreatedAnywhere, CreateTakesNoState}

-- the refusal of a number
abbrev refusal_of : ℕ → Refusal
refusal_of n =
    cond (eqb n 1) refusal.Sizes (cond (eqb n 2) refusal.Misfit (cond (eqb n 3) refusal.LargeFrame (cond (eqb n 4) refusal.Busy
    (cond (eqb n 5) refusal.NotCarried (cond (eqb n 6) refusal.LargeValue (cond (eqb n 7) refusal.BitNotCarried (cond (eqb n 8) refusal.GoIsStop
    (cond (eqb n 9) refusal.Malformed (cond (eqb n 10) refusal.HeldLine (cond (eqb n 12) refusal.NotNext refusal.LargeCommand))))))))))

refusal_named : (r : Refusal) → refusal_of (number_of r) ≡ r
refusal_named refusal.Sizes = refl
refusal_named refusal.Misfit = refl
refusal_named refusal.LargeFrame = refl
refusal_named refusal.Busy = refl
refusal_named refusal.NotCarried = refl
refusal_named refusal.LargeValue = refl
refusal_named refusal.BitNotCarried = refl
refusal_named refusal.GoIsStop = refl
refusal_named refusal.Malformed = refl
refusal_named refusal.HeldLine = refl
refusal_named refusal.NotNext = refl
refusal_named refusal.LargeCommand = refl

-- the numbers tell the refusals apart
one_refusal : (r₁ r₂ : Refusal) → refused (number_of r₁) ≡ refused (number_of r₂) → r₁ ≡ r₂
unfolding fault_of
one_refusal r₁ r₂ e = sym (refusal_named r₁) ∙ ap (λ (a : Said). refusal_of (fault_of a)) e ∙ refusal_named r₂

-- and an answer is none
not_refused_said : (a : Answer) (r : Refusal) → said a ≡ refused (number_of r) → ⊥
not_refused_said a r e = false≢true (sym (answer_told a) ∙ ap is_refusal e)

-- what is said tells the answer or the refusal
said_apart : (a₁ a₂ : Result Answer Refusal) → said_by a₁ ≡ said_by a₂ → a₁ ≡ a₂
said_apart (Ok a) (Ok b) e = ap Ok (said_one a b e)
said_apart (Ok a) (Err s) e = absurd (not_refused_said a s e)
said_apart (Err r) (Ok b) e = absurd (not_refused_said b r (sym e))
said_apart (Err r) (Err s) e = ap Err (one_refusal r s e)

-- an answer and a state tell the outcome
one_outcome : (o₁ o₂ : Outcome) → said o₁.answer ≡ said o₂.answer → o₁.state ≡ o₂.state → o₁ ≡ o₂
one_outcome o₁ o₂ e f = rw (said_one o₁.answer o₂.answer e, f)

-- so two results of one call are the same
module _ (s : State) (rx₁ rx₂ tx₁ tx₂ : List ℕ) where
  same : (o₁ o₂ : Result Outcome Refusal) → did s o₁ rx₁ tx₁ ≡ did s o₂ rx₂ tx₂ → Same o₁ o₂ rx₁ rx₂ tx₁ tx₂
  same (Ok o) (Ok p) e =
      let r = one_outcome o p (ap (λ (d : Did). d.said) e) (ap (λ (d : Did). d.world.state) e) in
      record { reply = ap Ok r; rx = ap (λ (d : Did). d.world.rx) e; tx = ap (λ (d : Did). d.world.tx) e }
  same (Ok o) (Err r) e = absurd (not_refused_said o.answer r (ap (λ (d : Did). d.said) e))
  same (Err r) (Ok o) e = absurd (not_refused_said o.answer r (ap (λ (d : Did). d.said) (sym e)))
  same (Err r) (Err q) e =
      let k = one_refusal r q (ap (λ (d : Did). d.said) e) in
      record { reply = ap Err k; rx = ap (λ (d : Did). d.world.rx) e; tx = ap (λ (d : Did). d.world.tx) e }

  same_told : (t₁ t₂ : Result Told Refusal) → told s t₁ rx₁ tx₁ ≡ told s t₂ rx₂ tx₂ → Same t₁ t₂ rx₁ rx₂ tx₁ tx₂
  same_told (Ok t) (Ok u) e =
      let r = one_outcome t.outcome u.outcome (ap (λ (d : Did). d.said) e) (ap (λ (d : Did). d.world.state) e) in
      let k : t ≡ u = rw (r, ap (λ (d : Did). d.room) e) in
      record { reply = ap Ok k; rx = ap (λ (d : Did). d.world.rx) e; tx = ap (λ (d : Did). d.world.tx) e }
  same_told (Ok t) (Err r) e = absurd (not_refused_said t.outcome.answer r (ap (λ (d : Did). d.said) e))
  same_told (Err r) (Ok t) e = absurd (not_refused_said t.outcome.answer r (ap (λ (d : Did). d.said) (sym e)))
  same_told (Err r) (Err q) e =
      let k = one_refusal r q (ap (λ (d : Did). d.said) e) in
      record { reply = ap Err k; rx = ap (λ (d : Did). d.world.rx) e; tx = ap (λ (d : Did). d.world.tx) e }

pub one_result : OneResult
one_result =
    record {
      calls = λ c w o₁ o₂ rx₁ rx₂ tx₁ tx₂ p q. same w.state rx₁ rx₂ tx₁ tx₂ o₁ o₂ (p ∙ sym q);
      tells = λ c w t₁ t₂ rx₁ rx₂ tx₁ tx₂ p q. same_told w.state rx₁ rx₂ tx₁ tx₂ t₁ t₂ (p ∙ sym q);
      asked = λ w a₁ a₂ p q. said_apart a₁ a₂ (ap (λ (d : Did). d.said) (p ∙ sym q));
      shown = λ side w x₁ x₂ p q. let e : part x₁ ≡ part x₂ = ap (λ (d : Did). d.said) (p ∙ sym q) in cc;
    }

pub create_takes_no_state : CreateTakesNoState
unfolding step refused_or checks not_refused said
create_takes_no_state m rx tx s d p =
    subst (CreatedAnywhere m rx tx s) (sym p) (pick (sizes_obeyed m (length rx) (length tx)) refl)
  where
    pick : (t : Bool) → sizes_obeyed m (length rx) (length tx) ≡ t → CreatedAnywhere m rx tx s (step (create m) (unmade m rx tx))
    pick true e = record { answer = rw e; room = rw e; made = λ _. rw e; kept = λ h. absurd (false≢true (rw e at h)) }
    pick false e = record { answer = rw e; room = rw e; made = λ h. absurd (false≢true (sym (rw e at h))); kept = λ _. rw e }

-- the state that create gives
pub create_state : (m : ℕ) (rx tx : List ℕ) (o : Outcome) → Promised (create m) (unmade m rx tx) (did (unmade m rx tx).state (Ok o) rx tx) →
    o.state ≡ start_state m (length rx) (length tx)
unfolding not_refused
create_state m rx tx o p =
    ap (λ (d : Did). d.world.state) p
    ∙ by_refusal (λ (d : Did). d.world.state ≡ start_state m (length rx) (length tx)) (create m) (unmade m rx tx) (λ _. refl) (λ _. refl)
