-- How the role and the remote flags go, over every call. Assumes nothing.
use Prim.Native.Nat.{ℕ, ◌-◌, ◌%◌}
use native.Mathlib.Omega.{arith}
use mathlib.Core.Path.{◌≡◌, refl, sym, ap, ◌∙◌}
use mathlib.Core.Bool.{Bool, true, false, cond, ◌&&◌, not, true≢false}
use mathlib.Core.List.{List}
use lib.Dec.{eqb}
use borrow.Author.Tests.{eqb-true, ne_eqb}
use Rattle.answers.specs.Refusals.{first_refusal}
use Rattle.branches.proofs.Branches.{and_left}
use Rattle.machine.specs.Machine.{Obeys}
use Rattle.frame.specs.Frame.{control_of, data_of, is_data}
use Rattle.role.specs.declared.Role.{Role}
use Rattle.role.specs.Role.{with_address, with_phase}
use Rattle.role.specs.ReadyFrames.{gives_address}
use Rattle.role.proofs.ReadyLaws.{address_numbers}
use Rattle.reading.specs.Reading.{Sent, none, one}
use Rattle.reading.specs.Received.{Received}
use Rattle.sending.specs.Sending.{given_of, send_held}
use Rattle.talker.specs.declared.Talker.{Talker}
use Rattle.talker.specs.Obeying.{obeyed_talker}
use Rattle.state.specs.declared.State.{State}
use Rattle.state.specs.Outcome.{Outcome}
use Rattle.answers.specs.Answers.{Said, said}
use Rattle.state.specs.Conditions.{settled, after_status, after_status_back}
use Rattle.line.specs.HoldingOff.{resumed, next_out}
use Rattle.loopside.specs.LoopToLine.{added_state}
use Rattle.talker.specs.UnderWay.{talking}
use Rattle.loopside.specs.Sends.{rule_of, ended, removed_state, send_state, send_from, send_status}
use Rattle.loopside.specs.Frames.{order_in, obeyed, cleared, device_clear, frame_taken}
use Rattle.bridge.specs.Calls.{reset, write, line_byte, line_break, key, ask_line_byte, take_line_byte, loop_frame, Call, create}
use Rattle.bridge.specs.Calls.{show, on, World, Did, checks, outcome, settled_by, not_refused, step, refusal}
use Rattle.laws.specs.Observers.{any, taken, data_frame, on_frame, restarts}
use Rattle.laws.specs.Fitting.{Fits}
use Rattle.laws.specs.Worlds.{held_cells}
use Rattle.laws.specs.Roles.{commanded, readied, returned_to, by_frame, remote_by_frame, RoleGoes, RemoteGoes}
use Rattle.laws.proofs.Answers.{frame_not_refused}
use Rattle.laws.proofs.Refusing.{by_refusal, fitting}
use Rattle.runs.proofs.Alike.{same_kind}
use Rattle.runs.proofs.Bytes.{sent_plain}
use Rattle.runs.proofs.Sends.{seen_plain}
use Rattle.runs.proofs.FrameKinds.{address_high, role_fits}
use Rattle.laws.proofs.Ways.{Way, Returning, Arriving, Commanding, Readying, Identifying, is_next, is_back, is_last, is_damaged, is_stored}
use Rattle.laws.proofs.Ways.{is_passed, is_cleared, is_obeyed, is_assigned, is_send_asked, is_told, is_finishing, is_ready, is_identified, way}
use Rattle.runs.proofs.Obeying.{obeyed_right}
use Rattle.runs.proofs.Remote.{remote_way}
use Rattle.runs.proofs.Untouched.{Untouched, settled_untouched, break_untouched, key_untouched, line_untouched, gone_untouched, write_untouched}
use Rattle.runs.proofs.Steps.{ours}

-- ---- frames

module _ (w : World) (F : Fits w) (f : ℕ) where
  abbrev r : Role
  r = w.state.talker.role

  abbrev Right : Outcome → Type 0
  Right o = o.state.talker.role ≡ by_frame f w.state.talker.role (said o.answer)

  -- a send makes the talker active where it gives a frame
  send_role : (send_from w.state w.rx).state.talker.role ≡ with_phase w.state.talker.role (cond (any (data_frame (said (send_from w.state w.rx).answer))) 2 1)
  unfolding send_from send_state ended talking removed_state resumed send_held said
  send_role = go (send_held (rule_of w.state.regs) w.rx w.state.rx) refl
    where
      go : (x : Sent Received ℕ) → send_held (rule_of w.state.regs) w.rx w.state.rx ≡ x →
          (send_state w.state (removed_state w.state w.rx) (given_of x)).state.talker.role
          ≡ with_phase w.state.talker.role (cond (any (data_frame (said (send_state w.state (removed_state w.state w.rx) (given_of x)).answer))) 2 1)
      go (none q) e = refl
      go (one g q) e =
          ap (λ (l : List ℕ). with_phase w.state.talker.role (cond (any l) 2 1))
          (sym (seen_plain w.state g (sent_plain (rule_of w.state.regs) (held_cells w) g q e)))

  -- a data frame that comes back, and one that does not
  returned_role : Returning w.state f → (t : Role) (a : Said) → t ≡ with_phase w.state.talker.role (cond (any (data_frame a)) 2 1) →
      t ≡ by_frame f w.state.talker.role a
  unfolding by_frame returned_to
  returned_role q t a e =
      e ∙ (λ i. cond (sym q.isdata i) (with_phase w.state.talker.role (cond (sym q.active i) (cond (any (data_frame a)) 2 1) w.state.talker.role.phase))
      w.state.talker.role)
      ∙ data_either (is_data f) q.isdata _ _ _
    where
      data_either : (d : Bool) → d ≡ true → (x y z : Role) → cond d x y ≡ cond d x z
      data_either d h x y z = (λ i. cond (h i) x y) ∙ (λ i. cond (sym h i) x z)

  arrived_role : Arriving w.state f → (a : Said) → w.state.talker.role ≡ by_frame f w.state.talker.role a
  unfolding by_frame returned_to
  arrived_role q a =
      (λ i. cond (sym q.isdata i) (with_phase w.state.talker.role (cond (sym q.idle i) (cond (any (data_frame a)) 2 1) w.state.talker.role.phase))
      w.state.talker.role)
      ∙ (λ i. cond (q.isdata i) (returned_to w.state.talker.role (any (data_frame a))) w.state.talker.role)
      ∙ (λ i. cond (sym q.isdata i) (returned_to w.state.talker.role (any (data_frame a)))
      (cond (eqb (control_of f) 4) (commanded w.state.talker.role (data_of f))
      (cond (eqb (control_of f) 5) (readied w.state.talker.role (data_of f) (any (data_frame a))) w.state.talker.role)))

  commanded_role : Commanding f → (t : Role) (a : Said) → t ≡ commanded w.state.talker.role (data_of f) → t ≡ by_frame f w.state.talker.role a
  unfolding by_frame
  commanded_role q t a e =
      e ∙ (λ i. cond (sym q.isdata i) (returned_to w.state.talker.role (any (data_frame a)))
      (cond (sym q.four i) (commanded w.state.talker.role (data_of f))
      (cond (eqb (control_of f) 5) (readied w.state.talker.role (data_of f) (any (data_frame a))) w.state.talker.role)))

  readied_role : Readying f → (t : Role) (a : Said) → t ≡ readied w.state.talker.role (data_of f) (any (data_frame a)) → t ≡ by_frame f w.state.talker.role a
  unfolding by_frame
  readied_role q t a e =
      e ∙ (λ i. cond (sym q.isdata i) (returned_to w.state.talker.role (any (data_frame a)))
      (cond (sym q.four i) (commanded w.state.talker.role (data_of f))
      (cond (sym q.five i) (readied w.state.talker.role (data_of f) (any (data_frame a))) w.state.talker.role)))

  identified_role : Identifying f → (a : Said) → w.state.talker.role ≡ by_frame f w.state.talker.role a
  unfolding by_frame
  identified_role q a =
      λ i. cond (sym q.isdata i) (returned_to w.state.talker.role (any (data_frame a)))
      (cond (sym q.four i) (commanded w.state.talker.role (data_of f))
      (cond (sym q.five i) (readied w.state.talker.role (data_of f) (any (data_frame a))) w.state.talker.role))

  -- a ready frame by what it asks
  ready_by : (x y z n : Bool) → gives_address w.state.talker.role (data_of f) ≡ x → (eqb (data_of f) 96 && eqb w.state.talker.role.phase 1) ≡ y →
      (eqb (data_of f) 97 && eqb w.state.talker.role.phase 1) ≡ z →
      record {
        address = cond x (data_of f - 128) w.state.talker.role.address;
        phase = cond y (cond n 2 1) (cond z 3 w.state.talker.role.phase);
        listener = w.state.talker.role.listener;
      }
      ≡ readied w.state.talker.role (data_of f) n
  unfolding readied
  ready_by x y z n p q s =
      λ i.
      record {
        address = cond (sym (address_numbers w.state.talker.role (data_of f) ∙ p) i) (data_of f - 128) w.state.talker.role.address;
        phase = cond (sym q i) (cond n 2 1) (cond (sym s i) 3 w.state.talker.role.phase);
        listener = w.state.talker.role.listener;
      }

  not_asked : (n : ℕ) → (data_of f ≡ n → ⊥) → (eqb (data_of f) n && eqb w.state.talker.role.phase 1) ≡ false
  not_asked n h = λ i. ne_eqb (data_of f) n h i && eqb w.state.talker.role.phase 1

  obeyed_role : (obeyed w.state (order_in w.state f)).talker.role ≡ commanded w.state.talker.role (data_of f)
  unfolding obeyed obeyed_talker
  obeyed_role = (obeyed_right w.state.talker.role w.state.remote (role_fits w F).range (data_of f)).0

  role_way : (o : Outcome) → Way w.state w.rx f o → Right o
  unfolding send_status ended talking after_status after_status_back added_state cleared said
  role_way o (is_next q m k e) = returned_role q _ _ send_role
  role_way o (is_back q m k) = returned_role q _ _ refl
  role_way o (is_last q m k e) = returned_role q _ _ refl
  role_way o (is_damaged q m) = returned_role q _ _ refl
  role_way o (is_stored q l) = arrived_role q _
  role_way o (is_passed q l) = arrived_role q _
  role_way o (is_cleared q c) = commanded_role q _ _ obeyed_role
  role_way o (is_obeyed q c) = commanded_role q _ _ obeyed_role
  role_way o (is_assigned q a) =
      let b : data_of f - data_of f % 32 ≡ 128 = eqb-true (data_of f - data_of f % 32) 128 (and_left _ _ (and_left _ _ a)) in
      let p : data_of f % 32 ≡ data_of f - 128 = omega arith in
      readied_role q _ _
      (ap (with_address w.state.talker.role) p ∙
      ready_by true false false _ a (not_asked 96 (address_high w.state.talker.role (data_of f) 96 (omega arith) a))
      (not_asked 97 (address_high w.state.talker.role (data_of f) 97 (omega arith) a)))
  role_way o (is_send_asked q a x) = readied_role q _ _ (send_role ∙ ready_by false true _ _ a x refl)
  role_way o (is_told q a x y) = readied_role q _ _ (ready_by false false true _ a x y)
  role_way o (is_finishing q a x y z) = readied_role q _ _ (ready_by false false false _ a x y)
  role_way o (is_ready q a x y z) = readied_role q _ _ (ready_by false false false _ a x y)
  role_way o (is_identified q) = identified_role q _

-- ---- every call

abbrev Goes : Call → World → Did → Type 0
Goes c w d =
    restarts c d.said ≡ false →
    (d.world.state.talker.role ≡
    on_frame (λ f. cond (taken d.said) (by_frame f w.state.talker.role d.said) w.state.talker.role) w.state.talker.role c)
    × (d.world.state.remote ≡
    on_frame (λ f. cond (taken d.said) (remote_by_frame f w.state.talker.role w.state.remote) w.state.remote) w.state.remote c)

-- a call that touches neither, with requests settled
untouched : (s t : State) → Untouched s t → ((settled s t).talker.role ≡ s.talker.role) × ((settled s t).remote ≡ s.remote)
unfolding settled
untouched s t u = (ap (λ (q : Talker). q.role) u.talker, u.remote)

done_goes : (c : Call) (w : World) → first_refusal (checks c w) ≡ 0 → Goes c w (not_refused c w)
unfolding not_refused outcome settled_by restarts said
done_goes (create m) w e q = absurd (true≢false q)
done_goes (show side) w e q = (refl, refl)
done_goes (on reset) w e q = absurd (true≢false q)
done_goes (on (write n v)) w e q = untouched w.state _ (write_untouched w.state n v)
done_goes (on (line_byte b)) w e q = untouched w.state _ (line_untouched w.state b)
done_goes (on line_break) w e q = untouched w.state _ (break_untouched w.state)
done_goes (on key) w e q = untouched w.state _ (key_untouched w.state)
done_goes (on ask_line_byte) w e q = untouched w.state _ (record { talker = refl; remote = refl })
done_goes (on (take_line_byte b)) w e q = untouched w.state _ (gone_untouched w.state (next_out w.state w.tx))
done_goes (on (loop_frame f)) w e q =
    let o : Outcome = frame_taken w.state w.rx f in
    let u : Untouched o.state _ = settled_untouched w.state (device_clear w.state f) o.state in
    let F : Fits w = (fitting (loop_frame f) w e).0 in (
      ap (λ (t : Talker). t.role) u.talker ∙ role_way w F f o (way w.state w.rx f)
          ∙ (λ i. cond (not (sym (frame_not_refused w.state w.rx f) i)) (by_frame f w.state.talker.role (said o.answer)) w.state.talker.role),
      u.remote ∙ remote_way w F f o (way w.state w.rx f)
          ∙ (λ i. cond (not (sym (frame_not_refused w.state w.rx f) i)) (remote_by_frame f w.state.talker.role w.state.remote) w.state.remote),
    )

refused_goes : (c : Call) (w : World) (n : ℕ) → Goes c w (refusal n w)
refused_goes c w n e = (sym (same_kind w.state.talker.role c).0, sym (same_kind w.state.remote c).0)

goes : (c : Call) (w : World) → Goes c w (step c w)
goes c w = by_refusal (Goes c w) c w (done_goes c w) (λ _. refused_goes c w _)

pub role_goes : Obeys ours RoleGoes
role_goes c w _ = λ q. (goes c w q).0

pub remote_goes : Obeys ours RemoteGoes
remote_goes c w _ = λ q. (goes c w q).1
