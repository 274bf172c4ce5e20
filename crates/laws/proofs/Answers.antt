-- What each call answers, and that it refuses exactly when a check is given. Assumes nothing.
use Prim.Native.Nat.{ℕ}
use mathlib.Core.Path.{◌≡◌, refl, sym, ap, ◌∙◌}
use mathlib.Core.Bool.{true, false, false≢true}
use mathlib.Core.List.{List}
use Rattle.answers.specs.Refusals.{first_refusal}
use Rattle.machine.specs.Machine.{Obeys}
use Rattle.std.specs.Prelude.{Option, Some, None}
use Rattle.state.specs.declared.State.{State}
use Rattle.state.specs.Outcome.{Outcome}
use Rattle.std.specs.Prelude.{Option, Some, None}
use Rattle.state.specs.declared.Next.{Next}
use Rattle.state.specs.declared.Next.TheVariants as out
use Rattle.answers.specs.Answers.{Said, frame, refused, said, is_refusal, byte_or_refused, frame_or_refused}
use Rattle.line.specs.HoldingOff.{next_out, out_answer}
use Rattle.loopside.specs.Sends.{ended, send_state, send_from, send_status}
use Rattle.loopside.specs.Frames.{frame_taken}
use Rattle.bridge.specs.Calls.{Call, create, show, on, reset, write, line_byte, line_break}
use Rattle.bridge.specs.Calls.{key, ask_line_byte, take_line_byte, loop_frame, World, outcome, checks, not_refused, step}
use Rattle.laws.specs.Bridges.{bridge}
use Rattle.laws.specs.Observers.{is_frame}
use Rattle.answers.specs.Refusing.{Refuses}
use Rattle.laws.specs.Answering.{can_answer, AnswersSo, RefusedExactly}
use Rattle.laws.proofs.Refusing.{by_refusal}
use Rattle.laws.proofs.Ways.{Way, is_next, is_back, is_last, is_damaged, is_stored, is_passed, is_cleared}
use Rattle.laws.proofs.Ways.{is_obeyed, is_assigned, is_send_asked, is_told, is_finishing, is_ready, is_identified, way}

-- ---- a frame for a frame

-- an answer that is a frame: it is one that a loop frame can have, and no refusal
record Framed (x : Said) : Type 0 where
  frame : is_frame x ≡ true
  answer : frame_or_refused x ≡ true
  pub taken : is_refusal x ≡ false

framed : (k d : ℕ) → Framed (frame k d)
framed k d = record { frame = refl; answer = refl; taken = refl }

send_framed : (s t : State) (g : Option ℕ) → Framed (said (send_state s t g).answer)
unfolding send_state ended said
send_framed s t None = framed _ _
send_framed s t (Some f) = framed _ _

way_framed : (s : State) (rx : List ℕ) (f : ℕ) (o : Outcome) → Way s rx f o → Framed (said o.answer)
unfolding send_from send_status ended said
way_framed s rx f o (is_next r m k e) = send_framed s _ _
way_framed s rx f o (is_back r m k) = framed _ _
way_framed s rx f o (is_last r m k e) = framed _ _
way_framed s rx f o (is_damaged r m) = framed _ _
way_framed s rx f o (is_stored r l) = framed _ _
way_framed s rx f o (is_passed r l) = framed _ _
way_framed s rx f o (is_cleared r c) = framed _ _
way_framed s rx f o (is_obeyed r c) = framed _ _
way_framed s rx f o (is_assigned r a) = framed _ _
way_framed s rx f o (is_send_asked r a x) = send_framed s _ _
way_framed s rx f o (is_told r a x y) = framed _ _
way_framed s rx f o (is_finishing r a x y z) = framed _ _
way_framed s rx f o (is_ready r a x y z) = framed _ _
way_framed s rx f o (is_identified r) = framed _ _

frame_framed : (s : State) (rx : List ℕ) (f : ℕ) → Framed (said (frame_taken s rx f).answer)
frame_framed s rx f = way_framed s rx f (frame_taken s rx f) (way s rx f)

pub frame_answered : (s : State) (rx : List ℕ) (f : ℕ) → is_frame (said (frame_taken s rx f).answer) ≡ true
frame_answered s rx f = (frame_framed s rx f).frame

pub frame_not_refused : (s : State) (rx : List ℕ) (f : ℕ) → is_refusal (said (frame_taken s rx f).answer) ≡ false
frame_not_refused s rx f = (frame_framed s rx f).taken

-- ---- every call that is accepted

out_said : (o : Option Next) → byte_or_refused (said (out_answer o)) ≡ true
unfolding out_answer said
out_said (Some (out.Own b)) = refl
out_said (Some (out.Held b)) = refl
out_said None = refl

out_taken : (o : Option Next) → is_refusal (said (out_answer o)) ≡ false
unfolding out_answer said
out_taken (Some (out.Own b)) = refl
out_taken (Some (out.Held b)) = refl
out_taken None = refl

-- what a call answers when it is not refused is no refusal
pub record Accepted (c : Call) (x : Said) : Type 0 where
  pub answer : can_answer c x ≡ true
  pub taken : is_refusal x ≡ false

pub accepted : (c : Call) (w : World) → Accepted c (not_refused c w).said
unfolding not_refused outcome said
accepted (create m) w = record { answer = refl; taken = refl }
accepted (show side) w = record { answer = refl; taken = refl }
accepted (on reset) w = record { answer = refl; taken = refl }
accepted (on (write n v)) w = record { answer = refl; taken = refl }
accepted (on (line_byte b)) w = record { answer = refl; taken = refl }
accepted (on line_break) w = record { answer = refl; taken = refl }
accepted (on key) w = record { answer = refl; taken = refl }
accepted (on (take_line_byte b)) w = record { answer = refl; taken = refl }
accepted (on ask_line_byte) w =
    let o = next_out w.state w.tx in
    record { answer = out_said o; taken = out_taken o }
accepted (on (loop_frame f)) w =
    let h = frame_framed w.state w.rx f in
    record { answer = h.answer; taken = h.taken }

-- every call can answer a refusal but showing, which has no checks
can_refuse : (c : Call) (w : World) → (first_refusal (checks c w) ≡ 0 → ⊥) → (n : ℕ) → can_answer c (refused n) ≡ true
unfolding checks
can_refuse (create m) w h n = refl
can_refuse (show side) w h n = absurd (h refl)
can_refuse (on reset) w h n = refl
can_refuse (on (write k v)) w h n = refl
can_refuse (on (line_byte b)) w h n = refl
can_refuse (on line_break) w h n = refl
can_refuse (on key) w h n = refl
can_refuse (on ask_line_byte) w h n = refl
can_refuse (on (take_line_byte b)) w h n = refl
can_refuse (on (loop_frame f)) w h n = refl

pub answers_so : Obeys (bridge step) AnswersSo
answers_so c w _ =
    by_refusal (λ d. can_answer c d.said ≡ true) c w (λ _. (accepted c w).answer) (λ h. can_refuse c w h (first_refusal (checks c w)))

pub refuses : (c : Call) (w : World) → Refuses (step c w).said (step c w).world (first_refusal (checks c w)) w
refuses c w =
    by_refusal (λ d. Refuses d.said d.world (first_refusal (checks c w)) w) c w
    (λ e. record {
      when = λ m h. absurd (false≢true (sym taken ∙ ap is_refusal h));
      given = λ h. absurd (h e);
      accepts = λ h. taken;
      leaves = λ h. absurd (false≢true (sym taken ∙ h));
    })
    (λ h. record { when = λ m q. cc; given = λ q. refl; accepts = λ q. absurd (h q); leaves = λ q. refl })
  where
    taken : is_refusal (not_refused c w).said ≡ false
    taken = (accepted c w).taken

pub refused_exactly : Obeys (bridge step) RefusedExactly
refused_exactly c w _ = refuses c w

-- a refused call leaves all as it was, in every world
pub refusal_leaves : (c : Call) (w : World) → is_refusal (step c w).said ≡ true → (step c w).world ≡ w
refusal_leaves c w = (refuses c w).leaves
