-- Frames, last: which frames get the service bit. Assumes nothing.
use Prim.Native.Nat.{ℕ, ◌+◌, ◌-◌, ◌%◌, ◌<◌}
use native.Mathlib.Omega.{arith}
use mathlib.Core.Path.{◌≡◌, refl, sym, ap, subst, ◌∙◌}
use mathlib.Core.Bool.{Bool, true, false, cond, ◌&&◌, ◌||◌, not, false≢true}
use lib.Dec.{eqb, ltb}
use borrow.Author.Tests.{eqb-true, eqb-false, ne_eqb, ltb-true, ltb-false, lt-ltb, le-ltb}
use Rattle.branches.proofs.Branches.{by_cond, and_left}
use Rattle.frame.specs.Frame.{control_of, data_of, made, has_service, stripped, with_service}
use Rattle.frame.proofs.Laws.{service_set}
use Rattle.role.specs.Role.{is_active}
use Rattle.reading.specs.Reading.{Sent, none, one}
use Rattle.reading.specs.Received.{Received}
use Rattle.sending.specs.Sending.{given_of, send_held}
use Rattle.state.specs.declared.State.{State}
use Rattle.state.specs.Outcome.{Outcome}
use Rattle.answers.specs.declared.Answer.TheVariants.{Frame}
use Rattle.answers.specs.Answers.{Said, said, frame, refused}
use Rattle.state.specs.Conditions.{shows, serviced, status_of}
use Rattle.loopside.specs.Sends.{rule_of, removed_state, send_state, send_from, send_status, ended}
use Rattle.loopside.specs.Frames.{frame_taken}
use Rattle.answers.specs.Refusals.{first_refusal}
use Rattle.bridge.specs.Calls.{on, loop_frame, World, Did, checks, outcome, refused_or, step, refusal}
use Rattle.bridge.specs.Calls as calls
use Rattle.laws.specs.Observers.{passes_on}
use Rattle.laws.specs.Worlds.{held_cells}
use Rattle.laws.specs.Service.{carries_service, ServiceRight, ServiceBit}
use Rattle.laws.proofs.Ways.{Way, Returning, Arriving, Commanding, Readying, Identifying, way}
use Rattle.laws.proofs.Ways.{is_next, is_back, is_last, is_damaged, is_stored, is_passed, is_cleared}
use Rattle.laws.proofs.Ways.{is_obeyed, is_assigned, is_send_asked, is_told, is_finishing, is_ready, is_identified}
use Rattle.runs.proofs.Answered.{serviced_kind, status_small}
use Rattle.runs.proofs.Bytes.{Plain, plain_data, sent_plain}
use Rattle.machine.specs.Machine.{Obeys}
use Rattle.runs.proofs.Steps.{ours, answer, at_call}

-- the service bit of a frame that gets it if a request shows
serviced_bit : (s : State) (f : ℕ) → has_service (serviced s f) ≡ (shows s || has_service f)
unfolding serviced
serviced_bit s f = go (shows s)
  where
    go : (t : Bool) → has_service (cond t (with_service f) f) ≡ (t || has_service f)
    go true = service_set f
    go false = refl

bare_bit : (f : ℕ) → Plain f → has_service f ≡ false
unfolding stripped
bare_bit f p = ne_eqb (control_of f % 2) 1 (λ h. omega (arith, p.bare))

module _ (w : World) (f : ℕ) where
  abbrev Right : Said → Type 0
  Right a = (k d : ℕ) → a ≡ frame k d → ServiceRight w f k d

  abbrev OutRight : Outcome → Type 0
  OutRight o = Right (said o.answer)

  answers : (x : ℕ) → ServiceRight w f (control_of x) (data_of x) → Right (said (Frame x))
  unfolding said
  answers x r k d e =
      let p : control_of x ≡ k = cc in
      let q : data_of x ≡ d = cc in
      subst (λ n. ServiceRight w f n d) p (subst (λ n. ServiceRight w f (control_of x) n) q r)

  -- a frame of our own, in answer to a frame that does not pass
  own : passes_on w.state f ≡ false → (g : ℕ) → Plain g → Right (said (Frame (serviced w.state g)))
  unfolding shows
  own N g p =
      answers (serviced w.state g)
      (record {
        bit = λ _. serviced_bit w.state g ∙ ap (λ t. shows w.state || t) (bare_bit g p ∙ sym (ap (λ t. t && has_service f) N));
        other = λ _ _. ap (λ t. t || eqb (control_of (serviced w.state g)) 5) (serviced_kind w.state g ∙ p.isdata);
      })

  -- a ready frame
  plain_ready : (x : ℕ) → control_of x ≡ 5 → Right (said (Frame x))
  plain_ready x e = answers x (record { bit = λ h. absurd (false≢true (sym (ap carries_service e) ∙ h)); other = λ _ _. ap (λ k. ltb k 4 || eqb k 5) e })

  send_right : passes_on w.state f ≡ false → OutRight (send_from w.state w.rx)
  unfolding send_from send_state ended send_held
  send_right N = go (send_held (rule_of w.state.regs) w.rx w.state.rx) refl
    where
      go : (x : Sent Received ℕ) → send_held (rule_of w.state.regs) w.rx w.state.rx ≡ x →
          OutRight (send_state w.state (removed_state w.state w.rx) (given_of x))
      go (none r) e = plain_ready (made 5 64) refl
      go (one g r) e = own N g (sent_plain (rule_of w.state.regs) (held_cells w) g r e)

  -- a frame that passes, and a command
  passed_right : passes_on w.state f ≡ true → Right (said (Frame (serviced w.state f)))
  unfolding shows
  passed_right P =
      answers (serviced w.state f)
      (record {
        bit = λ _. serviced_bit w.state f ∙ ap (λ t. shows w.state || (t && has_service f)) (sym P);
        other =
            λ n _. absurd (false≢true (sym n ∙ P));
      })

  command_right : Commanding f → Right (said (Frame f))
  command_right r =
      let c = eqb-true (control_of f) 4 r.four in
      answers f (record { bit = λ h. absurd (false≢true (sym (ap carries_service c) ∙ h)); other = λ _ n. absurd (n c) })

  -- ---- every frame

  returning : Returning w.state f → passes_on w.state f ≡ false
  unfolding passes_on
  returning r = λ j. (r.isdata j && not (r.active j)) || le-ltb 5 (control_of f) (omega (arith, ltb-true (control_of f) 4 r.isdata)) j

  arriving : Arriving w.state f → passes_on w.state f ≡ true
  unfolding passes_on
  arriving r = λ j. (r.isdata j && not (r.idle j)) || ltb 5 (control_of f)

  readying : Readying f → passes_on w.state f ≡ false
  unfolding passes_on
  readying r = λ j. (r.isdata j && not (is_active w.state.talker.role)) || le-ltb 5 (control_of f) (omega (arith, eqb-true (control_of f) 5 r.five)) j

  identifying : Identifying f → passes_on w.state f ≡ true
  unfolding passes_on
  identifying r =
      let p : 5 < control_of f =
      omega (arith, ltb-false (control_of f) 4 r.isdata, eqb-false (control_of f) 4 r.four, eqb-false (control_of f) 5 r.five) in
      λ j. (r.isdata j && not (is_active w.state.talker.role)) || lt-ltb 5 (control_of f) p j

  way_right : (o : Outcome) → Way w.state w.rx f o → OutRight o
  unfolding ended send_status
  way_right o (is_next r m k e) = send_right (returning r)
  way_right o (is_back r m k) = plain_ready (made 5 64) refl
  way_right o (is_last r m k e) = plain_ready (made 5 64) refl
  way_right o (is_damaged r m) = plain_ready (made 5 65) refl
  way_right o (is_stored r l) = passed_right (arriving r)
  way_right o (is_passed r l) = passed_right (arriving r)
  way_right o (is_cleared r c) = command_right r
  way_right o (is_obeyed r c) = command_right r
  way_right o (is_assigned r a) =
      let b : data_of f - data_of f % 32 ≡ 128 = eqb-true (data_of f - data_of f % 32) 128 (and_left _ _ (and_left _ _ a)) in
      plain_ready (made 5 (data_of f + 1)) (omega arith)
  way_right o (is_send_asked r a x) = send_right (readying r)
  way_right o (is_told r a x y) = own (readying r) (made 0 (status_of w.state)) (plain_data (status_of w.state) (status_small w.state))
  way_right o (is_finishing r a x y z) = plain_ready f (eqb-true (control_of f) 5 r.five)
  way_right o (is_ready r a x y z) = plain_ready f (eqb-true (control_of f) 5 r.five)
  way_right o (is_identified r) = passed_right (identifying r)

  refused_right : (n : ℕ) → Right (refused n)
  refused_right n k d e = let z : ◌≡◌ {A = ℕ} 0 1 = cc in absurd (omega arith)

pub service_bit : Obeys ours ServiceBit
unfolding step refused_or calls.not_refused outcome
service_bit c w b f k d =
    at_call (λ c. answer c w ≡ frame k d → ServiceRight w f k d) (on (loop_frame f))
    (let n = first_refusal (checks (on (loop_frame f)) w) in
    by_cond (λ (x : Did). Right w f x.said) (eqb n 0) (calls.not_refused (on (loop_frame f)) w) (refusal n w)
    (λ _. way_right w f (frame_taken w.state w.rx f) (way w.state w.rx f))
    (λ _. refused_right w f n)
    k d)
    c
