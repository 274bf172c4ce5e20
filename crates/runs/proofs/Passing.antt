-- What answers the frames that pass, the commands and the address. Assumes nothing.
use Prim.Native.Nat.{ℕ, ◌+◌, ◌-◌, ◌%◌}
use native.Mathlib.Omega.{arith}
use mathlib.Core.Path.{◌≡◌, refl, sym, ◌∙◌}
use mathlib.Core.Bool.{true, false, ◌&&◌, ◌||◌, not, or-true, true≢false, false≢true}
use lib.Dec.{eqb}
use borrow.Author.Tests.{eqb-true, eq-eqb, ltb-true, le-ltb}
use Rattle.branches.proofs.Branches.{and_left}
use Rattle.answers.specs.Refusals.{first_refusal}
use Rattle.machine.specs.Machine.{Obeys, seen}
use Rattle.frame.specs.Frame.{control_of, data_of, made}
use Rattle.role.specs.Role.{is_active}
use Rattle.role.specs.ReadyFrames.{gives_address}
use Rattle.role.proofs.ReadyLaws.{address_numbers}
use Rattle.state.specs.Outcome.{Outcome}
use Rattle.answers.specs.Answers.{Said, said, frame}
use Rattle.state.specs.Conditions.{serviced}
use Rattle.state.specs.Conditions as state-status
use Rattle.bridge.specs.Calls.{loop_frame, on, World, Did, checks, outcome, not_refused, step}
use Rattle.loopside.specs.Frames.{frame_taken}
use Rattle.laws.specs.Observers.{taken, passes_on, is_asked}
use Rattle.laws.specs.Passing.{as_frame, PassedOn, FramesPass}
use Rattle.runs.proofs.Refusals.{if_taken}
use Rattle.laws.proofs.Ways.{Way, Returning, Arriving, Commanding, Readying, Identifying, is_next, is_back, is_last, is_damaged, is_stored}
use Rattle.laws.proofs.Ways.{is_passed, is_cleared, is_obeyed, is_assigned, is_send_asked, is_told, is_finishing, is_ready, is_identified, way}
use Rattle.runs.proofs.Steps.{answer, ours, at_call}

module _ (w : World) (f : ℕ) where
  -- what is answered, by the outcome
  abbrev Right : Said → Type 0
  Right a = PassedOn f (record { call = on (loop_frame f); before = w; answer = a; after = w })

  module _ (a : Said) where
    -- none of these: a data frame that is a return
    returns : Returning w.state f → Right a
    unfolding passes_on
    returns r =
        record {
          command = λ h. absurd (omega (arith, ltb-true (control_of f) 4 r.isdata));
          passes = λ h.
              absurd (false≢true
              (sym (λ i. (r.isdata i && not (r.active i)) || le-ltb 5 (control_of f) (omega (arith, ltb-true (control_of f) 4 r.isdata)) i) ∙ h));
          address = λ h. absurd (omega (arith, ltb-true (control_of f) 4 r.isdata));
          ready = λ h. absurd (omega (arith, ltb-true (control_of f) 4 r.isdata));
        }

    -- a data frame that passes
    arrives : Arriving w.state f → a ≡ as_frame (serviced w.state f) → Right a
    unfolding serviced state-status.shows
    arrives r e =
        record {
          command = λ h. absurd (omega (arith, ltb-true (control_of f) 4 r.isdata));
          passes = λ _. e;
          address = λ h. absurd (omega (arith, ltb-true (control_of f) 4 r.isdata));
          ready = λ h. absurd (omega (arith, ltb-true (control_of f) 4 r.isdata));
        }

    commands : Commanding f → a ≡ as_frame f → Right a
    unfolding passes_on
    commands r e =
        record {
          command = λ _. e;
          passes = λ h.
              absurd (false≢true
              (sym (λ i. (r.isdata i && not (is_active w.state.talker.role)) ||
              le-ltb 5 (control_of f) (omega (arith, eqb-true (control_of f) 4 r.four)) i) ∙ h));
          address = λ h. absurd (omega (arith, eqb-true (control_of f) 4 r.four));
          ready = λ h. absurd (omega (arith, eqb-true (control_of f) 4 r.four));
        }

    identifies : Identifying f → a ≡ as_frame (serviced w.state f) → Right a
    unfolding serviced state-status.shows
    identifies r e =
        record {
          command = λ h. absurd (true≢false (sym (eq-eqb (control_of f) 4 h) ∙ r.four));
          passes = λ _. e;
          address = λ h. absurd (true≢false (sym (eq-eqb (control_of f) 5 h) ∙ r.five));
          ready = λ h. absurd (true≢false (sym (eq-eqb (control_of f) 5 h) ∙ r.five));
        }

    -- a ready frame: an address where x holds, and else asked for where y holds
    readies : Readying f → (gives_address w.state.talker.role (data_of f) ≡ true → a ≡ frame 5 (data_of f + 1)) →
        (gives_address w.state.talker.role (data_of f) ≡ false → (is_asked 96 w.state f || is_asked 97 w.state f) ≡ false → a ≡ as_frame f) → Right a
    unfolding passes_on
    readies r x y =
        record {
          command = λ h. absurd (true≢false (sym (eq-eqb (control_of f) 4 h) ∙ r.four));
          passes = λ h.
              absurd (false≢true
              (sym (λ i. (r.isdata i && not (is_active w.state.talker.role)) ||
              le-ltb 5 (control_of f) (omega (arith, eqb-true (control_of f) 5 r.five)) i) ∙ h));
          address = λ _ h. x (sym (address_numbers w.state.talker.role (data_of f)) ∙ h);
          ready = λ _ h. y (sym (address_numbers w.state.talker.role (data_of f)) ∙ h);
        }

  five_next : gives_address w.state.talker.role (data_of f) ≡ true → as_frame (made 5 (data_of f + 1)) ≡ frame 5 (data_of f + 1)
  five_next h =
      let b : data_of f - data_of f % 32 ≡ 128 = eqb-true (data_of f - data_of f % 32) 128 (and_left _ _ (and_left _ _ h)) in
      let p : control_of (made 5 (data_of f + 1)) ≡ 5 = omega arith in
      let q : data_of (made 5 (data_of f + 1)) ≡ data_of f + 1 = omega arith in
      λ i. frame (p i) (q i)

  -- it is asked for by this frame
  asked : Readying f → (n : ℕ) → (eqb (data_of f) n && eqb w.state.talker.role.phase 1) ≡ true → is_asked n w.state f ≡ true
  asked r n x = λ i. r.five i && x i

  pass_way : (o : Outcome) → Way w.state w.rx f o → Right (said o.answer)
  unfolding said
  pass_way o (is_next r m k e) = returns _ r
  pass_way o (is_back r m k) = returns _ r
  pass_way o (is_last r m k e) = returns _ r
  pass_way o (is_damaged r m) = returns _ r
  pass_way o (is_stored r l) = arrives _ r refl
  pass_way o (is_passed r l) = arrives _ r refl
  pass_way o (is_cleared r c) = commands _ r refl
  pass_way o (is_obeyed r c) = commands _ r refl
  pass_way o (is_assigned r a) = readies _ r five_next (λ n. absurd (true≢false (sym a ∙ n)))
  pass_way o (is_send_asked r a x) =
      readies _ r (λ n. absurd (true≢false (sym n ∙ a))) (λ _ n. absurd (true≢false (sym (λ i. asked r 96 x i || is_asked 97 w.state f) ∙ n)))
  pass_way o (is_told r a x y) =
      readies _ r (λ n. absurd (true≢false (sym n ∙ a)))
      (λ _ n. absurd (true≢false (sym (or-true (is_asked 96 w.state f)) ∙ (λ i. is_asked 96 w.state f || sym (asked r 97 y) i) ∙ n)))
  pass_way o (is_finishing r a x y z) = readies _ r (λ n. absurd (true≢false (sym n ∙ a))) (λ _ _. refl)
  pass_way o (is_ready r a x y z) = readies _ r (λ n. absurd (true≢false (sym n ∙ a))) (λ _ _. refl)
  pass_way o (is_identified r) = identifies _ r refl

  -- of what is answered, whatever is left
  pub passed_right : (a : Said) (v : World) → Right a → PassedOn f (record { call = on (loop_frame f); before = w; answer = a; after = v })
  passed_right a v p = record { command = p.command; passes = p.passes; address = p.address; ready = p.ready }

pub frames_pass : Obeys ours FramesPass
unfolding step not_refused outcome
frames_pass c w _ f =
    at_call (λ c. taken (answer c w) ≡ true → PassedOn f (seen ours c w)) (on (loop_frame f))
    (λ t. passed_right w f _ _
    (if_taken (λ (d : Did). Right w f d.said) (first_refusal (checks (on (loop_frame f)) w)) (not_refused (on (loop_frame f)) w) w
    (λ _. pass_way w f (frame_taken w.state w.rx f) (way w.state w.rx f)) t))
    c
