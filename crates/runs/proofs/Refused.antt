-- A refused call leaves all alone, and a frame taken gives one out. Assumes nothing.
use Prim.Native.Nat.{ℕ}
use mathlib.Core.Path.{◌≡◌, refl, sym, ◌∙◌}
use mathlib.Core.Bool.{true, false, false≢true}
use mathlib.Core.List.{List}
use Rattle.answers.specs.Refusals.{first_refusal}
use Rattle.state.specs.declared.State.{State}
use Rattle.std.specs.Prelude.{Option, Some, None}
use Rattle.state.specs.declared.Next.{Next}
use Rattle.state.specs.declared.Next.TheVariants as out
use Rattle.state.specs.Outcome.{Outcome}
use Rattle.answers.specs.Answers.{Said, said, done, none, byte, frame, refused, part, cell, lines}
use Rattle.line.specs.HoldingOff.{next_out, out_answer}
use Rattle.loopside.specs.Sends.{send_state, send_from, send_status, ended}
use Rattle.loopside.specs.Frames.{frame_taken}
use Rattle.bridge.specs.Calls.{on, create, reset, write, line_byte, line_break, key, ask_line_byte, take_line_byte, loop_frame, show, World, Did, checks}
use Rattle.bridge.specs.Calls.{outcome, refused_or, step}
use Rattle.bridge.specs.Calls as calls
use Rattle.laws.specs.Observers.{taken, is_frame}
use Rattle.laws.specs.Demands.{RefusedStays, OneFrameOut}
use Rattle.laws.proofs.Ways.{Way, is_next, is_back, is_last, is_damaged, is_stored, is_passed, is_cleared}
use Rattle.laws.proofs.Ways.{is_obeyed, is_assigned, is_send_asked, is_told, is_finishing, is_ready, is_identified, way}
use Rattle.runs.proofs.Refusals.{or_refused, if_taken}
use Rattle.runs.proofs.Steps.{after, ours, answer, at_call}
use Rattle.machine.specs.Machine.{Obeys}

-- a frame is answered
abbrev Answers : Outcome → Type 0
Answers o = is_frame (said o.answer) ≡ true

send_answers : (before after : State) (g : Option ℕ) → Answers (send_state before after g)
unfolding send_state ended said
send_answers before after None = refl
send_answers before after (Some f) = refl

way_answers : (s : State) (rx : List ℕ) (f : ℕ) (o : Outcome) → Way s rx f o → Answers o
unfolding send_from send_status ended said
way_answers s rx f o (is_next r m k e) = send_answers s _ _
way_answers s rx f o (is_back r m k) = refl
way_answers s rx f o (is_last r m k e) = refl
way_answers s rx f o (is_damaged r m) = refl
way_answers s rx f o (is_stored r l) = refl
way_answers s rx f o (is_passed r l) = refl
way_answers s rx f o (is_cleared r c) = refl
way_answers s rx f o (is_obeyed r c) = refl
way_answers s rx f o (is_assigned r a) = refl
way_answers s rx f o (is_send_asked r a x) = send_answers s _ _
way_answers s rx f o (is_told r a x y) = refl
way_answers s rx f o (is_finishing r a x y z) = refl
way_answers s rx f o (is_ready r a x y z) = refl
way_answers s rx f o (is_identified r) = refl

pub frame_answers : (s : State) (rx : List ℕ) (f : ℕ) → Answers (frame_taken s rx f)
frame_answers s rx f = way_answers s rx f (frame_taken s rx f) (way s rx f)

-- a frame is no refusal
pub frame_taken_lem : (a : Said) → is_frame a ≡ true → taken a ≡ true
frame_taken_lem done e = refl
frame_taken_lem none e = refl
frame_taken_lem (byte b) e = refl
frame_taken_lem (frame k d) e = refl
frame_taken_lem (refused n) e = e
frame_taken_lem (part l) e = refl
frame_taken_lem (cell n) e = refl
frame_taken_lem (lines n) e = refl

pub out_taken : (o : Option Next) → taken (said (out_answer o)) ≡ true
unfolding out_answer said
out_taken (Some (out.Own b)) = refl
out_taken (Some (out.Held b)) = refl
out_taken None = refl

module _ (w : World) where
  -- refused, and nothing is changed
  abbrev Stays : Did → Type 0
  Stays d = taken d.said ≡ false → d.world ≡ w

  not_refused_lem : (d : Did) → taken d.said ≡ true → Stays d
  not_refused_lem d e h = absurd (false≢true (sym h ∙ e))

  stays_or : (n : ℕ) (d : Did) → taken d.said ≡ true → Stays (refused_or n d w)
  stays_or n d e = or_refused Stays n d w (λ _. refl) (λ _. not_refused_lem d e)

pub refused_stays : Obeys ours RefusedStays
unfolding step calls.not_refused outcome said
refused_stays (create m) w B = stays_or w _ _ refl
refused_stays (on reset) w B = stays_or w _ _ refl
refused_stays (on (write n v)) w B = stays_or w _ _ refl
refused_stays (on (line_byte b)) w B = stays_or w _ _ refl
refused_stays (on line_break) w B = stays_or w _ _ refl
refused_stays (on key) w B = stays_or w _ _ refl
refused_stays (on ask_line_byte) w B = stays_or w _ _ (out_taken (next_out w.state w.tx))
refused_stays (on (take_line_byte b)) w B = stays_or w _ _ refl
refused_stays (on (loop_frame f)) w B = stays_or w _ _ (frame_taken_lem (said (frame_taken w.state w.rx f).answer) (frame_answers w.state w.rx f))
refused_stays (show side) w B = stays_or w _ _ refl

pub one_frame_out : Obeys ours OneFrameOut
unfolding step calls.not_refused outcome
one_frame_out c w B f =
    at_call (λ c. taken (answer c w) ≡ true → is_frame (answer c w) ≡ true) (on (loop_frame f))
    (if_taken (λ (d : Did). is_frame d.said ≡ true) (first_refusal (checks (on (loop_frame f)) w)) (calls.not_refused (on (loop_frame f)) w) w
    (λ _. frame_answers w.state w.rx f))
    c
