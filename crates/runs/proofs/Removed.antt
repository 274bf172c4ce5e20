-- Nothing but a send removes a byte from the receive store, and a break is held behind the newest. Assumes nothing.
use Prim.Native.Nat.{ℕ}
use mathlib.Core.Path.{◌≡◌, refl, sym, ap, ◌∙◌}
use mathlib.Core.Bool.{Bool, true, false, cond, ◌&&◌, not, true≢false}
use mathlib.Core.List.{List, [], ◌∷◌, ◌++◌, map, append-nil}
use lib.Dec.{eqb}
use borrow.Author.Tests.{leb-false, leb-true}
use Rattle.branches.proofs.Branches.{by_cond}
use Rattle.answers.specs.Refusals.{first_refusal}
use Rattle.machine.specs.Machine.{Obeys}
use Rattle.registers.specs.Writing.{written}
use Rattle.store.specs.declared.Ring.{Ring}
use Rattle.store.specs.Ring.{held, full, put_bytes}
use Rattle.store.proofs.Laws.{put_full}
use Rattle.reading.specs.Received.{a_byte, a_break, received_in, as_held}
use Rattle.reading.proofs.Received.{bytes_held}
use Rattle.state.specs.declared.State.{State}
use Rattle.state.specs.Outcome.{Outcome}
use Rattle.std.specs.Prelude.{Option, Some, None}
use Rattle.state.specs.declared.Next.{Next}
use Rattle.state.specs.declared.Next.TheVariants as out
use Rattle.answers.specs.Answers.{said}
use Rattle.state.specs.Conditions.{settled, break_state, key_state, after_status, after_status_back}
use Rattle.line.specs.HoldingOff.{is_go_or_stop, flowed, lost_state, stored_state, stored_with, line_state, line_bytes, set_afresh, after_write, next_out, gone}
use Rattle.loopside.specs.LoopToLine.{added_state}
use Rattle.talker.specs.UnderWay.{talking}
use Rattle.loopside.specs.Sends.{ended, send_status}
use Rattle.loopside.specs.Frames.{device_clear}
use Rattle.bridge.specs.Calls.{OnState, reset, write, line_byte, line_break, key, ask_line_byte, take_line_byte, loop_frame, Call, create}
use Rattle.bridge.specs.Calls.{show, on, World, Did, checks, outcome, settled_by, rx_after, not_refused, refusal}
use Rattle.laws.specs.Observers.{on_frame, is_send, is_flow, arrived, accepted, breaks, bytes_and_breaks, restarts, clears, empties}
use Rattle.laws.specs.Worlds.{held_cells, held_to_send}
use Rattle.laws.specs.SendRule.{NoneRemoved}
use Rattle.laws.proofs.Answers.{frame_not_refused}
use Rattle.laws.proofs.Refusing.{by_refusal, fitting}
use Rattle.runs.proofs.Shapes.{Fits, Core}
use Rattle.runs.proofs.FramesRead.{held_stored, accepted_bytes}
use Rattle.runs.proofs.Broken.{held_broken, broke}
use Rattle.runs.proofs.View.{view}
use Rattle.runs.proofs.FrameKinds.{Kind, is_sent, is_status, is_back, is_cleared, is_kept, is_other, kind_of}
use Rattle.runs.proofs.Steps.{ours, answer, after}

-- where nothing arrives, nothing is accepted
none_accepted : (l : List ℕ) (t : Bool) → l ≡ l ++ cond t [] []
none_accepted l true = sym (append-nil l)
none_accepted l false = sym (append-nil l)

-- the ring of the receive store is the same, with requests settled or not
settled_rx : (s : State) (t : Bool) (u : State) → u.rx ≡ s.rx → (cond t u (settled s u)).rx ≡ s.rx
unfolding settled
settled_rx s true u e = e
settled_rx s false u e = e

frame_rx : (s : State) (rx : List ℕ) (f : ℕ) (o : Outcome) → Kind s rx f o → is_send s f ≡ false → device_clear s f ≡ false → o.state.rx ≡ s.rx
unfolding send_status ended talking after_status after_status_back added_state
frame_rx s rx f o (is_sent m) e c = absurd (true≢false (sym m.send ∙ e))
frame_rx s rx f o (is_status m) e c = refl
frame_rx s rx f o (is_back m d) e c = refl
frame_rx s rx f o (is_cleared m k) e c = absurd (true≢false (sym m.clear ∙ c))
frame_rx s rx f o (is_kept m d l) e c = refl
frame_rx s rx f o (is_other t n p m x) e c = ap (λ (h : Core). h.rx) x.core

gone_rx : (s : State) (o : Option Next) → (gone s o).rx ≡ s.rx
unfolding gone
gone_rx s (Some (out.Own b)) = refl
gone_rx s (Some (out.Held b)) = refl
gone_rx s None = refl

write_rx : (s : State) (n v : ℕ) → (after_write s n (written s.regs n v)).rx ≡ s.rx
unfolding after_write set_afresh
write_rx s n v = by_cond (λ (t : State). t.rx ≡ s.rx) (eqb n 11) _ _ (λ _. refl) (λ _. refl)

-- a line byte is accepted, lost or no data
line_held : (w : World) → Fits w → (b : ℕ) (t u : Bool) → full w.state.rx ≡ u →
    held (cond t w.rx (put_bytes w.rx w.state.rx b)) (cond t (flowed w.state b) (cond u (lost_state w.state) (stored_state w.state))).rx
    ≡ held_cells w ++ cond u [] (cond (not t) (b ∷ []) [])
unfolding flowed lost_state stored_with
line_held w F b true true e = sym (append-nil (held_cells w))
line_held w F b true false e = sym (append-nil (held_cells w))
line_held w F b false true e =
    ap (λ (l : List ℕ). held l w.state.rx)
    (put_full w.rx w.state.rx b (leb-true w.state.rx.cap w.state.rx.len e))
    ∙ sym (append-nil (held_cells w))
line_held w F b false false e = held_stored w b F (leb-false w.state.rx.cap w.state.rx.len e)

abbrev Stays : Call → World → Did → Type 0
Stays c w d = empties c w d.said ≡ false → on_frame (is_send w.state) false c ≡ false → breaks c w d.said ≡ false →
    held_cells d.world ≡ held_cells w ++ accepted c w d.said

module _ (w : World) where
  abbrev F : Bool
  F = full w.state.rx

  same_ring : (r : Ring) → r ≡ w.state.rx → held w.rx r ≡ held_cells w ++ cond F [] []
  same_ring r e = ap (held w.rx) e ∙ none_accepted (held_cells w) F

  done_stays : (c : OnState) → first_refusal (checks (on c) w) ≡ 0 → Stays (on c) w (not_refused (on c) w)
  unfolding not_refused outcome settled_by rx_after settled restarts clears accepted arrived is_flow is_go_or_stop line_state line_bytes break_state key_state said
  done_stays reset e q n b = absurd (true≢false q)
  done_stays (write k v) e q n b = same_ring _ (write_rx w.state k v)
  done_stays (line_byte b) e q n _ = line_held w (fitting (line_byte b) w e).0 b (is_go_or_stop w.state.regs b) F refl
  done_stays line_break e q n b = absurd (true≢false b)
  done_stays key e q n b = same_ring _ refl
  done_stays ask_line_byte e q n b = same_ring _ refl
  done_stays (take_line_byte x) e q n b = same_ring _ (gone_rx w.state (next_out w.state w.tx))
  done_stays (loop_frame f) e q n b =
      let c : device_clear w.state f ≡ false = (λ i. not (sym (frame_not_refused w.state w.rx f) i) && device_clear w.state f) ∙ q in
      same_ring _ (settled_rx w.state (device_clear w.state f) _ (frame_rx w.state w.rx f _ (kind_of f w (fitting (loop_frame f) w e).0) n c))

  refused_stays : (c : Call) (n : ℕ) → Stays c w (refusal n w)
  unfolding accepted arrived
  refused_stays (create m) n q k b = none_accepted (held_cells w) F
  refused_stays (show side) n q k b = none_accepted (held_cells w) F
  refused_stays (on reset) n q k b = none_accepted (held_cells w) F
  refused_stays (on (write a v)) n q k b = none_accepted (held_cells w) F
  refused_stays (on (line_byte x)) n q k b = none_accepted (held_cells w) F
  refused_stays (on line_break) n q k b = none_accepted (held_cells w) F
  refused_stays (on key) n q k b = none_accepted (held_cells w) F
  refused_stays (on ask_line_byte) n q k b = none_accepted (held_cells w) F
  refused_stays (on (take_line_byte x)) n q k b = none_accepted (held_cells w) F
  refused_stays (on (loop_frame f)) n q k b = none_accepted (held_cells w) F

  done_any : (c : Call) → first_refusal (checks c w) ≡ 0 → Stays c w (not_refused c w)
  unfolding not_refused accepted arrived restarts said
  done_any (create m) e q n b = absurd (true≢false q)
  done_any (show side) e q n b = none_accepted (held_cells w) F
  done_any (on c) e q n b = done_stays c e q n b

pub none_removed : Obeys ours NoneRemoved
unfolding bytes_and_breaks
none_removed c w _ k q n = pick (breaks c w (answer c w)) refl
  where
    pick : (t : Bool) → breaks c w (answer c w) ≡ t →
        held_to_send (after c w) ≡ as_held (held_to_send w ++ cond t (a_break ∷ []) (map a_byte (accepted c w (answer c w))))
    pick true e =
        let b = broke w _ _ _ _ (view c w) e in
        (λ i. received_in (held (b.store i) (b.core i).rx)) ∙ held_broken w b.fits
    pick false e =
        ap received_in (by_refusal (Stays c w) c w (done_any w c) (λ _. refused_stays w c _) q n e)
        ∙ bytes_held (held_cells w) (accepted c w (answer c w)) (accepted_bytes c w (answer c w) k)
