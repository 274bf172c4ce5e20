-- Every frame out is 11 bits. Assumes nothing.
use Prim.Native.Nat.{ℕ, ◌<◌}
use native.Mathlib.Omega.{arith}
use mathlib.Core.Path.{◌≡◌, refl}
use mathlib.Core.List.{List}
use mathlib.Core.Bool.{true, ◌&&◌}
use borrow.Author.Tests.{lt-ltb, ltb-false}
use Rattle.answers.specs.Refusals.{first_refusal}
use Rattle.branches.proofs.Branches.{by_cond}
use Rattle.machine.specs.Machine.{Obeys}
use Rattle.frame.specs.Frame.{control_of, data_of, made}
use Rattle.frame.proofs.Laws.{service_small}
use Rattle.std.specs.Prelude.{Option, Some, None}
use Rattle.sending.specs.Sending.{given_of, send_held}
use Rattle.state.specs.declared.State.{State}
use Rattle.state.specs.Outcome.{Outcome}
use Rattle.std.specs.Prelude.{Option, Some, None}
use Rattle.state.specs.declared.Next.{Next}
use Rattle.state.specs.declared.Next.TheVariants as out
use Rattle.answers.specs.declared.Answer.{Answer}
use Rattle.answers.specs.declared.Answer.TheVariants as answer
use Rattle.answers.specs.Answers.{said}
use Rattle.state.specs.Conditions.{shows, serviced, status_of}
use Rattle.line.specs.HoldingOff.{next_out, out_answer}
use Rattle.loopside.specs.Sends.{rule_of, ended, removed_state, send_state, send_from, send_status}
use Rattle.loopside.specs.Frames.{frame_taken}
use Rattle.bridge.specs.Calls.{reset, write, line_byte, line_break, key, ask_line_byte, take_line_byte, loop_frame, Call}
use Rattle.bridge.specs.Calls.{create, show, on, World, Did, checks, outcome, not_refused}
use Rattle.laws.specs.Demands.{is_eleven, ElevenBits}
use Rattle.laws.proofs.Small.{given_small}
use Rattle.laws.proofs.Refusing.{by_refusal, frame_fitting}
use Rattle.runs.proofs.Answered.{status_small}
use Rattle.laws.proofs.Ways.{Way, is_next, is_back, is_last, is_damaged, is_stored, is_passed, is_cleared}
use Rattle.laws.proofs.Ways.{is_obeyed, is_assigned, is_send_asked, is_told, is_finishing, is_ready, is_identified, way}
use Rattle.runs.proofs.Steps.{ours}

-- an answer that is a frame of 11 bits
abbrev pub SmallFrame : Answer → Type 0
SmallFrame (answer.Frame f) = f < 2048
SmallFrame answer.Done = ⊥
SmallFrame answer.Nothing = ⊥
SmallFrame (answer.Byte b) = ⊥
SmallFrame (answer.Cell n) = ⊥
SmallFrame (answer.Lines n) = ⊥

abbrev pub SmallOut : Outcome → Type 0
SmallOut o = SmallFrame o.answer

serviced_small : (s : State) (f : ℕ) → f < 2048 → serviced s f < 2048
unfolding serviced
serviced_small s f h = by_cond (λ (n : ℕ). n < 2048) (shows s) _ _ (λ e. service_small f h) (λ e. h)

ended_small : (s : State) (d : ℕ) → d < 256 → SmallOut (ended s d)
unfolding ended
ended_small s d h = omega arith

send_small : (s t : State) (g : Option ℕ) → ((f : ℕ) → g ≡ Some f → f < 1024) → SmallOut (send_state s t g)
unfolding send_state
send_small s t None h = ended_small t 64 (omega arith)
send_small s t (Some f) h = serviced_small s f (omega (arith, h f refl))

module _ (s : State) (rx : List ℕ) where
  from_small : SmallOut (send_from s rx)
  unfolding send_from
  from_small = send_small s (removed_state s rx) (given_of (send_held (rule_of s.regs) rx s.rx)) (λ f e. given_small (rule_of s.regs) rx s.rx f e)

  pub frame_small : (f : ℕ) → f < 2048 → (o : Outcome) → Way s rx f o → SmallOut o
  unfolding send_status
  frame_small f h o (is_next r m t e) = from_small
  frame_small f h o (is_back r m t) = ended_small _ 64 (omega arith)
  frame_small f h o (is_last r m t e) = ended_small s 64 (omega arith)
  frame_small f h o (is_damaged r m) = ended_small s 65 (omega arith)
  frame_small f h o (is_stored r l) = serviced_small s f h
  frame_small f h o (is_passed r l) = serviced_small s f h
  frame_small f h o (is_cleared r c) = h
  frame_small f h o (is_obeyed r c) = h
  frame_small f h o (is_assigned r a) = omega arith
  frame_small f h o (is_send_asked r a x) = from_small
  frame_small f h o (is_told r a x y) = serviced_small s (made 0 (status_of s)) (omega (arith, status_small s))
  frame_small f h o (is_finishing r a x y z) = h
  frame_small f h o (is_ready r a x y z) = h
  frame_small f h o (is_identified r) = serviced_small s f h

-- what is told of it
by_frame : (a : Answer) → SmallFrame a → is_eleven (said a) ≡ true
unfolding said
by_frame (answer.Frame f) h = λ i. lt-ltb (control_of f) 8 (omega arith) i && lt-ltb (data_of f) 256 (omega arith) i
by_frame answer.Done h = absurd h
by_frame answer.Nothing h = absurd h
by_frame (answer.Byte b) h = absurd h
by_frame (answer.Cell n) h = absurd h
by_frame (answer.Lines n) h = absurd h

out_told : (o : Option Next) → is_eleven (said (out_answer o)) ≡ true
unfolding out_answer said
out_told (Some (out.Own b)) = refl
out_told (Some (out.Held b)) = refl
out_told None = refl

done_small : (c : Call) (w : World) → first_refusal (checks c w) ≡ 0 → is_eleven (not_refused c w).said ≡ true
unfolding not_refused outcome said
done_small (create m) w e = refl
done_small (show side) w e = refl
done_small (on reset) w e = refl
done_small (on (write n v)) w e = refl
done_small (on (line_byte x)) w e = refl
done_small (on line_break) w e = refl
done_small (on key) w e = refl
done_small (on ask_line_byte) w e = out_told (next_out w.state w.tx)
done_small (on (take_line_byte b)) w e = refl
done_small (on (loop_frame f)) w e =
    let x = frame_fitting f w e in
    by_frame (frame_taken w.state w.rx f).answer
    (frame_small w.state w.rx f (omega (arith, ltb-false 2047 f x.1.0))
    (frame_taken w.state w.rx f) (way w.state w.rx f))

pub eleven_bits : Obeys ours ElevenBits
eleven_bits c w _ = by_refusal (λ (d : Did). is_eleven d.said ≡ true) c w (done_small c w) (λ _. refl)
