-- A register write writes its register, and nothing else does; only a create or reset changes the sizes. Assumes nothing.
use Prim.Native.Nat.{ℕ}
use mathlib.Core.Path.{◌≡◌, refl, sym, ap}
use mathlib.Core.Bool.{Bool, true, false, cond, true≢false}
use mathlib.Core.List.{List, [], ◌∷◌}
use lib.Dec.{eqb}
use Rattle.branches.proofs.Branches.{by_cond}
use Rattle.machine.specs.Machine.{Obeys}
use Rattle.registers.specs.Writing.{written}
use Rattle.store.specs.Ring.{full, put_ring, drop_ring}
use Rattle.store.proofs.Several.{puts_cap}
use Rattle.sending.specs.Sending.{given_of, send_held, sent_ring}
use Rattle.state.specs.declared.State.{State}
use Rattle.state.specs.Outcome.{Outcome}
use Rattle.std.specs.Prelude.{Option, Some, None}
use Rattle.state.specs.declared.Next.{Next}
use Rattle.state.specs.declared.Next.TheVariants as out
use Rattle.answers.specs.Answers.{said}
use Rattle.state.specs.Conditions.{settled, break_state, key_state, after_status, after_status_back}
use Rattle.line.specs.HoldingOff.{is_go_or_stop, flowed, lost_state, stored_with, line_state, resumed, set_afresh, after_write, next_out, gone}
use Rattle.loopside.specs.LoopToLine.{added_state}
use Rattle.talker.specs.UnderWay.{talking}
use Rattle.loopside.specs.Sends.{rule_of, ended, removed_state, send_state, send_from, send_status}
use Rattle.loopside.specs.Frames.{obeyed, cleared, device_clear, frame_taken}
use Rattle.bridge.specs.Calls.{reset, write, line_byte, line_break, key, ask_line_byte, take_line_byte, loop_frame, Call}
use Rattle.bridge.specs.Calls.{create, show, on, World, Did, outcome, settled_by, not_refused, refusal}
use Rattle.laws.specs.Observers.{taken, on_write, restarts}
use Rattle.laws.specs.Starting.{register_values, recorded, SizesStay}
use Rattle.laws.specs.Registers.{numbers, written_to, RegistersGo}
use Rattle.laws.proofs.Refusing.{by_refusal}
use Rattle.laws.proofs.Ways.{Way, is_next, is_back, is_last, is_damaged, is_stored, is_passed, is_cleared}
use Rattle.laws.proofs.Ways.{is_obeyed, is_assigned, is_send_asked, is_told, is_finishing, is_ready, is_identified, way}
use Rattle.runs.proofs.Alike.{same_kind}
use Rattle.runs.proofs.Steps.{ours}

-- the registers and the sizes stay
record Same (s t : State) : Type 0 where
  regs : t.regs ≡ s.regs
  sizes : recorded t ≡ recorded s

same : (s : State) → Same s s
same s = record { regs = refl; sizes = refl }

-- requests settled or not, the registers stay
settled_same : (s : State) (t : Bool) (u : State) → Same s u → Same s (cond t u (settled s u))
unfolding settled
settled_same s true u e = e
settled_same s false u e = record { regs = e.regs; sizes = e.sizes }

send_same : (s : State) (rx : List ℕ) → Same s (send_from s rx).state
unfolding send_from send_state ended talking removed_state resumed sent_ring drop_ring
send_same s rx = go (given_of (send_held (rule_of s.regs) rx s.rx))
  where
    go : (g : Option ℕ) → Same s (send_state s (removed_state s rx) g).state
    go None = record { regs = refl; sizes = refl }
    go (Some f) = record { regs = refl; sizes = refl }

frame_same : (s : State) (rx : List ℕ) (f : ℕ) (o : Outcome) → Way s rx f o → Same s o.state
unfolding send_status ended talking after_status after_status_back added_state cleared obeyed
frame_same s rx f o (is_next r m k e) = send_same s rx
frame_same s rx f o (is_back r m k) = record { regs = refl; sizes = refl }
frame_same s rx f o (is_last r m k e) = record { regs = refl; sizes = refl }
frame_same s rx f o (is_damaged r m) = record { regs = refl; sizes = refl }
frame_same s rx f o (is_stored r l) = record { regs = refl; sizes = ap (λ (n : ℕ). s.margin ∷ s.rx.cap ∷ n ∷ []) (puts_cap s.tx _) }
frame_same s rx f o (is_passed r l) = record { regs = refl; sizes = refl }
frame_same s rx f o (is_cleared r c) = record { regs = refl; sizes = refl }
frame_same s rx f o (is_obeyed r c) = record { regs = refl; sizes = refl }
frame_same s rx f o (is_assigned r a) = record { regs = refl; sizes = refl }
frame_same s rx f o (is_send_asked r a x) = send_same s rx
frame_same s rx f o (is_told r a x y) = record { regs = refl; sizes = refl }
frame_same s rx f o (is_finishing r a x y z) = record { regs = refl; sizes = refl }
frame_same s rx f o (is_ready r a x y z) = record { regs = refl; sizes = refl }
frame_same s rx f o (is_identified r) = record { regs = refl; sizes = refl }

line_same : (s : State) (b : ℕ) → Same s (line_state s b)
unfolding line_state flowed lost_state stored_with put_ring
line_same s b =
    by_cond (Same s) (is_go_or_stop s.regs b) _ _ (λ _. record { regs = refl; sizes = refl })
    (λ _. by_cond (Same s) (full s.rx) _ _ (λ _. record { regs = refl; sizes = refl }) (λ _. record { regs = refl; sizes = refl }))

gone_same : (s : State) (o : Option Next) → Same s (gone s o)
unfolding gone drop_ring
gone_same s (Some (out.Own b)) = record { regs = refl; sizes = refl }
gone_same s (Some (out.Held b)) = record { regs = refl; sizes = refl }
gone_same s None = record { regs = refl; sizes = refl }

write_values : (s : State) (n v : ℕ) →
    register_values (settled s (after_write s n (written s.regs n v))).regs ≡ written_to n v numbers (register_values s.regs)
unfolding settled after_write set_afresh written written_to
write_values s n v =
    by_cond (λ (t : State). register_values t.regs ≡ written_to n v numbers (register_values s.regs)) (eqb n 11) _ _ (λ _. refl) (λ _. refl)

abbrev Goes : Call → World → Did → Type 0
Goes c w d =
    restarts c d.said ≡ false →
    register_values d.world.state.regs
    ≡ on_write (λ n v. cond (taken d.said) (written_to n v numbers (register_values w.state.regs)) (register_values w.state.regs))
    (register_values w.state.regs) c

done_goes : (c : Call) (w : World) → Goes c w (not_refused c w)
unfolding not_refused outcome settled_by settled restarts said break_state key_state
done_goes (create m) w e = absurd (true≢false e)
done_goes (show side) w e = refl
done_goes (on reset) w e = absurd (true≢false e)
done_goes (on (write n v)) w e = write_values w.state n v
done_goes (on (line_byte b)) w e = ap register_values (settled_same w.state false _ (line_same w.state b)).regs
done_goes (on line_break) w e = refl
done_goes (on key) w e = refl
done_goes (on ask_line_byte) w e = refl
done_goes (on (take_line_byte b)) w e = ap register_values (settled_same w.state false _ (gone_same w.state (next_out w.state w.tx))).regs
done_goes (on (loop_frame f)) w e =
    ap register_values
    (settled_same w.state (device_clear w.state f) _
    (frame_same w.state w.rx f (frame_taken w.state w.rx f) (way w.state w.rx f))).regs

refused_goes : (c : Call) (w : World) (n : ℕ) → Goes c w (refusal n w)
refused_goes c w n e = sym (same_kind (register_values w.state.regs) c).1

pub registers_go : Obeys ours RegistersGo
registers_go c w _ = by_refusal (Goes c w) c w (λ _. done_goes c w) (λ _. refused_goes c w _)

-- ---- the sizes

write_sizes : (s : State) (n v : ℕ) → recorded (after_write s n (written s.regs n v)) ≡ recorded s
unfolding after_write set_afresh
write_sizes s n v = by_cond (λ (t : State). recorded t ≡ recorded s) (eqb n 11) _ _ (λ _. refl) (λ _. refl)

abbrev Stay : Call → World → Did → Type 0
Stay c w d = restarts c d.said ≡ false → recorded d.world.state ≡ recorded w.state

done_stay : (c : Call) (w : World) → Stay c w (not_refused c w)
unfolding not_refused outcome settled_by settled restarts said break_state key_state
done_stay (create m) w e = absurd (true≢false e)
done_stay (show side) w e = refl
done_stay (on reset) w e = absurd (true≢false e)
done_stay (on (write n v)) w e = write_sizes w.state n v
done_stay (on (line_byte b)) w e = (line_same w.state b).sizes
done_stay (on line_break) w e = refl
done_stay (on key) w e = refl
done_stay (on ask_line_byte) w e = refl
done_stay (on (take_line_byte b)) w e = (gone_same w.state (next_out w.state w.tx)).sizes
done_stay (on (loop_frame f)) w e =
    (settled_same w.state (device_clear w.state f) _ (frame_same w.state w.rx f (frame_taken w.state w.rx f) (way w.state w.rx f))).sizes

pub sizes_stay : Obeys ours SizesStay
sizes_stay c w _ = by_refusal (Stay c w) c w (λ _. done_stay c w) (λ _ _. refl)
