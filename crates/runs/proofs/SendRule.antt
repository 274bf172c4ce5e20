-- A send gives the first frame of the reading rule, or 5,64 where there is none. Assumes nothing.
use Prim.Native.Nat.{ℕ}
use mathlib.Core.Path.{◌≡◌, refl, sym, ap, subst, ◌∙◌}
use mathlib.Core.Bool.{Bool, true, false, cond}
use mathlib.Core.List.{[], ◌∷◌, ◌++◌, append-nil}
use Rattle.branches.proofs.Branches.{cond_false}
use Rattle.answers.specs.Refusals.{first_refusal}
use Rattle.reading.specs.Reading.{Sent, none, one, sent_frames, sent_rest, send}
use Rattle.reading.specs.Received.{Received, received_in, as_held}
use Rattle.reading.specs.Steps.{cut}
use Rattle.reading.proofs.Reading.{send_ahead, send_none}
use Rattle.reading.proofs.Lawful.{lawful}
use Rattle.sending.specs.Sending.{given_of, send_held, sent_ring}
use Rattle.state.specs.Outcome.{Outcome}
use Rattle.answers.specs.Answers.{Said, said, frame}
use Rattle.talker.specs.UnderWay.{talking}
use Rattle.loopside.specs.Sends.{rule_of, removed_state, send_state, send_from, ended}
use Rattle.bridge.specs.Calls.{on, loop_frame, World, Did, checks, outcome, step, settled_by, rx_after}
use Rattle.bridge.specs.Calls as calls
use Rattle.laws.specs.Observers.{taken, is_send, data_frame, sent}
use Rattle.laws.specs.Worlds.{held_cells, held_to_send, reading, rule_in}
use Rattle.laws.specs.SendRule.{first_of, SendsFirst, SendRule}
use Rattle.runs.proofs.Bytes.{sent_plain}
use Rattle.runs.proofs.Sends.{seen_plain, held_sent}
use Rattle.runs.proofs.FrameKinds.{sends_from, kind_of, send_alone}
use Rattle.runs.proofs.Refusals.{if_taken, frame_fits}
use Rattle.runs.proofs.Steps.{answer, ours, at_call, after}
use Rattle.machine.specs.Machine.{Obeys, seen}
use Rattle.store.specs.declared.Ring.{Ring}
use Rattle.store.specs.Ring.{held}
use Rattle.std.specs.Prelude.{Option, Some, None}
use Rattle.state.specs.declared.State.{State}
use Rattle.state.specs.Conditions.{settled}
use Rattle.state.proofs.Fits.{rx_fits}
use Rattle.line.specs.HoldingOff.{resumed}
use Rattle.loopside.specs.Frames.{device_clear}
use Rattle.laws.specs.Fitting.{Fits}

module _ (w : World) where
  record First (a : Said) : Type 0 where
    first : data_frame a ≡ first_of (reading w (held_to_send w))
    ends : reading w (held_to_send w) ≡ [] → a ≡ frame 5 64

  first_sent : First (said (send_from w.state w.rx).answer)
  unfolding send_from send_state ended send_held said rule_of
  first_sent = go (send_held (rule_of w.state.regs) w.rx w.state.rx) refl
    where
      go : (x : Sent Received ℕ) → send_held (rule_of w.state.regs) w.rx w.state.rx ≡ x →
          First (said (send_state w.state (removed_state w.state w.rx) (given_of x)).answer)
      go (none r) e =
          let n : reading w (held_to_send w) ≡ [] = send_none (cut (rule_of w.state.regs)) (lawful (rule_of w.state.regs)) (held_to_send w) r e in
          record { first = ap first_of (sym n); ends = λ _. refl }
      go (one g r) e =
          let n : reading w (held_to_send w) ≡ g ∷ reading w (r ++ []) =
          ap (reading w) (sym (append-nil (held_to_send w))) ∙ send_ahead (cut (rule_of w.state.regs)) (lawful (rule_of w.state.regs)) (held_to_send w) []
          ∙ (λ i. sent_frames (e i) ++ reading w (sent_rest (e i) ++ [])) in
          record {
            first = seen_plain w.state g (sent_plain (rule_of w.state.regs) (held_cells w) g r e) ∙ ap first_of (sym n);
            ends = λ h. let z : g ∷ reading w (r ++ []) ≡ [] = sym n ∙ h in cc;
          }

-- requests settled or not, the receive store is the same
settled_rx : (s : State) (t : Bool) (u : State) → (cond t u (settled s u)).rx ≡ u.rx
unfolding settled
settled_rx s true u = refl
settled_rx s false u = refl

-- what a send leaves
send_left : (w : World) → Fits w →
    received_in (held w.rx (send_from w.state w.rx).state.rx) ≡ as_held (sent_rest (send (cut (rule_in w)) (held_to_send w)))
unfolding send_from send_state ended talking removed_state resumed send_held rule_of
send_left w F =
    ap received_in (go (given_of (send_held (rule_of w.state.regs) w.rx w.state.rx))) ∙
    held_sent (rule_of w.state.regs) w.rx w.state.rx (rx_fits w.state w.rx w.tx F).ring
  where
    go : (g : Option ℕ) →
        held w.rx (send_state w.state (removed_state w.state w.rx) g).state.rx ≡
        held w.rx (sent_ring (rule_of w.state.regs) w.rx w.state.rx)
    go None = refl
    go (Some f) = refl

pub send_rule : Obeys ours SendRule
unfolding step calls.not_refused outcome settled_by rx_after sent
send_rule c w _ f =
    at_call (λ c. taken (answer c w) ≡ true → is_send w.state f ≡ true → SendsFirst (seen ours c w)) (on (loop_frame f))
    (λ t S. let r = right t S in record { first = cond_false _ _ _ (send_alone w.state f S) ∙ r.first; ends = r.ends; rest = left_by t S })
    c
  where
    -- what is held after it
    left_by : taken (answer (on (loop_frame f)) w) ≡ true → is_send w.state f ≡ true →
        held_to_send (after (on (loop_frame f)) w) ≡ as_held (sent_rest (send (cut (rule_in w)) (held_to_send w)))
    left_by t S =
        if_taken (λ (d : Did). held_to_send d.world ≡ as_held (sent_rest (send (cut (rule_in w)) (held_to_send w)))) (first_refusal (checks (on (loop_frame f)) w))
        (calls.not_refused (on (loop_frame f)) w) w
        (λ e.
        ap (λ (r : Ring). received_in (held w.rx r))
        (settled_rx w.state (device_clear w.state f) _ ∙
        ap (λ (o : Outcome). o.state.rx) (sends_from w.state w.rx f _ (kind_of f w (frame_fits f w e)) S))
        ∙ send_left w (frame_fits f w e))
        t

    right : taken (answer (on (loop_frame f)) w) ≡ true → is_send w.state f ≡ true → First w (answer (on (loop_frame f)) w)
    right t S =
        if_taken (λ (d : Did). First w d.said) (first_refusal (checks (on (loop_frame f)) w)) (calls.not_refused (on (loop_frame f)) w) w
        (λ e. subst (λ (o : Outcome). First w (said o.answer)) (sym (sends_from w.state w.rx f _ (kind_of f w (frame_fits f w e)) S))
        (first_sent w))
        t
