-- When holding off begins and ends, and what permits and forbids our sending. Assumes nothing.
use Prim.Native.Nat.{ℕ, ◌*◌}
use mathlib.Core.Path.{◌≡◌, refl, ap}
use mathlib.Core.Bool.{Bool, true, false, cond, ◌&&◌, ◌||◌, not}
use mathlib.Core.List.{List, [], ◌∷◌}
use lib.Dec.{eqb, leb}
use Rattle.runs.proofs.Refusals.{or_refused, frame_fits}
use Rattle.registers.specs.Meanings.{protocol_on, stop}
use Rattle.registers.specs.Writing.{written}
use Rattle.store.specs.Ring.{full, room}
use Rattle.reading.specs.Reading.{Sent, none, one}
use Rattle.reading.specs.Received.{Received}
use Rattle.sending.specs.Sending.{given_of, send_held}
use Rattle.state.specs.declared.State.{State}
use Rattle.state.specs.declared.Line.{Line}
use Rattle.state.specs.Outcome.{Outcome}
use Rattle.std.specs.Prelude.{Option, Some, None}
use Rattle.state.specs.declared.Next.{Next}
use Rattle.state.specs.declared.Next.TheVariants as out
use Rattle.state.specs.State.{with_registers}
use Rattle.answers.specs.Answers.{Said, said, done, refused}
use Rattle.state.specs.Sizes.{start_state}
use Rattle.state.specs.Conditions.{settled, break_state, key_state}
use Rattle.state.specs.Conditions as state-status
use Rattle.line.specs.HoldingOff.{is_go_or_stop, flowed, lost_state, stored_with, stored_state, line_state}
use Rattle.line.specs.HoldingOff.{line_bytes, resumed, set_afresh, after_write, next_out, gone}
use Rattle.loopside.specs.LoopToLine.{added_state}
use Rattle.talker.specs.UnderWay.{talking}
use Rattle.loopside.specs.Sends.{rule_of, removed_state, send_state, send_from, send_status, ended}
use Rattle.loopside.specs.Frames.{cleared, frame_taken, device_clear}
use Rattle.bridge.specs.Calls.{Call, on, create, reset, write, line_byte, line_break, key, ask_line_byte, take_line_byte, loop_frame}
use Rattle.bridge.specs.Calls.{show, World, Did, outcome, settled_by, rx_after, tx_after, room_of, refused_or, step, refusal}
use Rattle.bridge.specs.Calls as calls
use Rattle.laws.specs.Observers.{taken, is_send, arrived, accepted, restarts, clears, empties, any, is_flow}
use Rattle.laws.specs.Holding.{sends, writes_r11, holding_after, HoldingGoes}
use Rattle.laws.specs.NextByte.{after_byte, forbidden_after, ForbiddenGoes}
use Rattle.runs.proofs.Refused.{frame_answers, frame_taken_lem}
use Rattle.runs.proofs.Shapes.{Fits}
use Rattle.runs.proofs.Alike.{same_either}
use Rattle.runs.proofs.FrameKinds.{Kind, is_sent, is_status, is_back, is_cleared, is_kept, is_other, kind_of}
use Rattle.machine.specs.Machine.{Obeys}
use Rattle.runs.proofs.Steps.{ours}

none_any : (t : Bool) → any (cond t [] []) ≡ false
none_any t = ap any (same_either t [])

record Goes (c : Call) (w : World) (d : Did) : Type 0 where
  holding : d.world.state.line.holding ≡ holding_after c w d.said d.world
  forbidden : d.world.state.line.forbidden ≡ forbidden_after c w d.said

-- nothing is seen that changes them
record Unseen (c : Call) (w : World) (a : Said) : Type 0 where
  empties : empties c w a ≡ false
  arrived : arrived c w a ≡ []
  sends : sends c w a ≡ false
  writes : writes_r11 c a ≡ false
  byte : after_byte w.state.line.forbidden c w a ≡ w.state.line.forbidden

same : (c : Call) (w : World) (d : Did) → Unseen c w d.said → d.world.state.line.holding ≡ w.state.line.holding →
    d.world.state.line.forbidden ≡ w.state.line.forbidden →
    Goes c w d
unfolding holding_after forbidden_after accepted
same c w d u h f =
    record {
      holding = rw (u.empties, u.arrived, none_any (full w.state.rx), u.sends, u.writes) h;
      forbidden = rw (u.empties, u.writes, u.byte) f;
    }

refused_unseen : (c : Call) (w : World) (n : ℕ) → Unseen c w (refused n)
unfolding arrived restarts clears sends after_byte
refused_unseen (create m) w n = record { empties = refl; arrived = refl; sends = refl; writes = refl; byte = refl }
refused_unseen (on reset) w n = record { empties = refl; arrived = refl; sends = refl; writes = refl; byte = refl }
refused_unseen (on (write k v)) w n = record { empties = refl; arrived = refl; sends = refl; writes = refl; byte = refl }
refused_unseen (on (line_byte b)) w n = record { empties = refl; arrived = refl; sends = refl; writes = refl; byte = refl }
refused_unseen (on line_break) w n = record { empties = refl; arrived = refl; sends = refl; writes = refl; byte = refl }
refused_unseen (on key) w n = record { empties = refl; arrived = refl; sends = refl; writes = refl; byte = refl }
refused_unseen (on ask_line_byte) w n = record { empties = refl; arrived = refl; sends = refl; writes = refl; byte = refl }
refused_unseen (on (take_line_byte b)) w n = record { empties = refl; arrived = refl; sends = refl; writes = refl; byte = refl }
refused_unseen (on (loop_frame f)) w n = record { empties = refl; arrived = refl; sends = refl; writes = refl; byte = refl }
refused_unseen (show side) w n = record { empties = refl; arrived = refl; sends = refl; writes = refl; byte = refl }

goes_or : (c : Call) (w : World) (n : ℕ) (d : Did) → (n ≡ 0 → Goes c w d) → Goes c w (refused_or n d w)
goes_or c w n d = or_refused (Goes c w) n d w (same c w (refusal n w) (refused_unseen c w n) refl refl)

-- a byte to the line
gone_goes : (b : ℕ) (w : World) (o : Option Next) →
    Goes (on (take_line_byte b)) w
    (record { said = done; room = 0; world = record { state = settled w.state (gone w.state o); rx = w.rx; tx = w.tx } })
unfolding gone settled arrived restarts clears sends after_byte
gone_goes b w (Some (out.Own x)) = same (on (take_line_byte b)) w _ (record { empties = refl; arrived = refl; sends = refl; writes = refl; byte = refl }) refl refl
gone_goes b w (Some (out.Held x)) = same (on (take_line_byte b)) w _ (record { empties = refl; arrived = refl; sends = refl; writes = refl; byte = refl }) refl refl
gone_goes b w None = same (on (take_line_byte b)) w _ (record { empties = refl; arrived = refl; sends = refl; writes = refl; byte = refl }) refl refl

-- ---- line bytes

line_goes : (w : World) (b : ℕ) →
    Goes (on (line_byte b)) w
    (record {
      said = done;
      room = room_of (line_byte b) (settled w.state (line_state w.state b));
      world = record { state = settled w.state (line_state w.state b); rx = line_bytes w.state w.rx b; tx = w.tx };
    })
unfolding holding_after forbidden_after after_byte accepted arrived restarts clears is_flow is_go_or_stop sends line_state flowed lost_state stored_with settled
line_goes w b =
    record {
      holding = holding_by (is_go_or_stop s.regs b) (full s.rx);
      forbidden = forbidden_by (is_go_or_stop s.regs b) (full s.rx);
    }
  where
    s : State
    s = w.state

    state : Bool → Bool → State
    state t u = cond t (flowed w.state b) (cond u (lost_state w.state) (stored_state w.state))

    holding_by : (t u : Bool) →
        (state t u).line.holding
        ≡ cond (any (cond u [] (cond (not t) (b ∷ []) []))) (s.line.holding || (protocol_on s.regs && leb (room (state t u).rx) s.margin))
        s.line.holding
    holding_by true true = refl
    holding_by true false = refl
    holding_by false true = refl
    holding_by false false = refl

    forbidden_by : (t u : Bool) → (state t u).line.forbidden ≡ cond t (eqb b (stop s.regs)) s.line.forbidden
    forbidden_by true u = refl
    forbidden_by false true = refl
    forbidden_by false false = refl

-- ---- register writes

write_goes : (w : World) (n v : ℕ) →
    Goes (on (write n v)) w
    (record {
      said = done;
      room = 0;
      world =
          record { state = settled w.state (after_write w.state n (written w.state.regs n v)); rx = w.rx; tx = w.tx };
    })
unfolding holding_after forbidden_after after_byte accepted arrived restarts clears sends after_write set_afresh settled
write_goes w n v =
    record {
      holding = rw (none_any (full w.state.rx)) (holding_by (eqb n 11));
      forbidden = forbidden_by (eqb n 11);
    }
  where
    g : State
    g = with_registers w.state (written w.state.regs n v)

    holding_by : (x : Bool) →
        (cond x (set_afresh g) g).line.holding ≡
        cond x (protocol_on (cond x (set_afresh g) g).regs && leb (room w.state.rx) w.state.margin) w.state.line.holding
    holding_by true = refl
    holding_by false = refl

    forbidden_by : (x : Bool) → (cond x (set_afresh g) g).line.forbidden ≡ cond x false w.state.line.forbidden
    forbidden_by true = refl
    forbidden_by false = refl

-- ---- loop frames

module _ (s : State) (rx : List ℕ) (f : ℕ) where
  -- the line after a frame that is a device clear or not, x, and a send or not, y
  record Framed (x y : Bool) (t : State) : Type 0 where
    holding : t.line.holding ≡ cond x false (cond y (s.line.holding && not (leb (2 * s.margin) (room t.rx))) s.line.holding)
    forbidden : t.line.forbidden ≡ cond x false s.line.forbidden

  send_framed : Framed false true (send_from s rx).state
  unfolding send_from send_state ended talking removed_state resumed
  send_framed = go (send_held (rule_of s.regs) rx s.rx)
    where
      go : (x : Sent Received ℕ) → Framed false true (send_state s (removed_state s rx) (given_of x)).state
      go (none r) = record { holding = refl; forbidden = refl }
      go (one g r) = record { holding = refl; forbidden = refl }

  by_kind : (o : Outcome) → Kind s rx f o → Framed (device_clear s f) (is_send s f) o.state
  unfolding send_status ended talking cleared added_state state-status.after_status state-status.after_status_back
  by_kind o (is_sent m) = rw (m.clear, m.send) send_framed
  by_kind o (is_status m) = rw (m.clear, m.send) (record { holding = refl; forbidden = refl })
  by_kind o (is_back m d) = rw (m.clear, m.send) (record { holding = refl; forbidden = refl })
  by_kind o (is_cleared m c) = rw (m.clear, m.send) (record { holding = refl; forbidden = refl })
  by_kind o (is_kept m d l) = rw (m.clear, m.send) (record { holding = refl; forbidden = refl })
  by_kind o (is_other t n p m x) =
      rw (m.clear, m.send) (record { holding = ap (λ (l : Line). l.holding) x.line; forbidden = ap (λ (l : Line). l.forbidden) x.line })

  settled_framed : (x y t : Bool) (u : State) → Framed x y u → Framed x y (cond t u (settled s u))
  unfolding settled
  settled_framed x y true u k = k
  settled_framed x y false u k = record { holding = k.holding; forbidden = k.forbidden }

frame_goes : (w : World) (f : ℕ) → Fits w → Goes (on (loop_frame f)) w (calls.not_refused (on (loop_frame f)) w)
unfolding holding_after forbidden_after after_byte accepted arrived restarts clears sends calls.not_refused outcome settled_by
frame_goes w f F =
    let k = settled_framed w.state w.rx f _ _ (device_clear w.state f) _ (by_kind w.state w.rx f _ (kind_of f w F)) in
    record {
      holding = rw (t, none_any (full w.state.rx)) k.holding;
      forbidden = rw t k.forbidden;
    }
  where
    t : taken (said (frame_taken w.state w.rx f).answer) ≡ true
    t = frame_taken_lem (said (frame_taken w.state w.rx f).answer) (frame_answers w.state w.rx f)

-- ---- every call

goes : (c : Call) (w : World) → Goes c w (step c w)
unfolding step calls.not_refused outcome settled_by settled rx_after tx_after room_of said arrived restarts clears sends after_byte break_state key_state start_state holding_after forbidden_after
goes (create m) w = goes_or (create m) w _ _ (λ _. record { holding = refl; forbidden = refl })
goes (on reset) w = goes_or (on reset) w _ _ (λ _. record { holding = refl; forbidden = refl })
goes (on (write n v)) w = goes_or (on (write n v)) w _ _ (λ _. write_goes w n v)
goes (on (line_byte b)) w = goes_or (on (line_byte b)) w _ _ (λ _. line_goes w b)
goes (on line_break) w =
    goes_or (on line_break) w _ _ (λ _. same (on line_break) w _ (record { empties = refl; arrived = refl; sends = refl; writes = refl; byte = refl }) refl refl)
goes (on key) w =
    goes_or (on key) w _ _ (λ _. same (on key) w _ (record { empties = refl; arrived = refl; sends = refl; writes = refl; byte = refl }) refl refl)
goes (on ask_line_byte) w =
    goes_or (on ask_line_byte) w _ _
    (λ _. same (on ask_line_byte) w _ (record { empties = refl; arrived = refl; sends = refl; writes = refl; byte = refl }) refl refl)
goes (on (take_line_byte b)) w = goes_or (on (take_line_byte b)) w _ _ (λ _. gone_goes b w (next_out w.state w.tx))
goes (on (loop_frame f)) w = goes_or (on (loop_frame f)) w _ _ (λ e. frame_goes w f (frame_fits f w e))
goes (show side) w =
    goes_or (show side) w _ _ (λ _. same (show side) w _ (record { empties = refl; arrived = refl; sends = refl; writes = refl; byte = refl }) refl refl)

pub holding_goes : Obeys ours HoldingGoes
holding_goes c w B = (goes c w).holding

pub forbidden_goes : Obeys ours ForbiddenGoes
forbidden_goes c w B = (goes c w).forbidden
