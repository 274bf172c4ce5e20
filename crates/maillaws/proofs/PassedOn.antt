-- What answers a frame that is no return and asks for nothing that waits. Assumes nothing.
use Prim.Native.Nat.{ℕ, ◌+◌, ◌≤◌}
use native.Mathlib.Omega.{arith}
use mathlib.Core.Path.{◌≡◌, refl, sym, ap, subst, ◌∙◌}
use mathlib.Core.Bool.{Bool, true, false, ◌&&◌, not, and-eq-true_iff, false≢true}
use lib.Dec.{eqb, leb, ltb}
use borrow.Author.Tests.{eqb-true, eq-eqb, ne_eqb, le-leb, leb-true, ltb-true, le-ltb, not-true}
use Rattle.branches.proofs.Branches.{by_cond, and_left, and_right}
use Rattle.machine.specs.Machine.{Obeys, seen}
use Rattle.machine.proofs.Course.{neither}
use Rattle.frame.specs.Frame.{control_of, data_of, made, is_data, same_apart}
use Rattle.frame.proofs.Laws.{control_made, data_made}
use Rattle.role.specs.declared.Role.{Role}
use Rattle.role.specs.declared.Ready.{Ready}
use Rattle.role.specs.declared.Ready.TheVariants.{Pass, Finish}
use Rattle.role.specs.ReadyFrames.{ready_of}
use Rattle.role.proofs.ReadyLaws.{address_numbers}
use Rattle.answers.specs.Answers.{Said, said, frame}
use Rattle.talker.specs.Returning.{return_of}
use Rattle.mailstate.specs.Outcome.{Outcome}
use Rattle.mailloop.specs.Sends.{serviced, ended, sends, id_byte, send_id, send_accessory, send_next}
use Rattle.mailloop.specs.Messages.{command, identities, readied, ready, judged, data_taken, frame_taken}
use Rattle.mailbox.specs.Calls.{loop_frame, Call, on, World, Did, outcome, not_refused, step}
use Rattle.maillaws.specs.Mailboxes.{mailbox}
use Rattle.maillaws.specs.Sights.{taken, loop_listens, loop_active, loop_addressed}
use Rattle.maillaws.specs.NotReady.{as_frame, requested}
use Rattle.maillaws.specs.LoopRole.{assigns}
use Rattle.maillaws.specs.FramesOn.{is_others, asks_us, id_after, goes_on_with_id, PassedOn, FramesPass}
use Rattle.maillaws.proofs.Refusal.{by_refusal}

module _ (w : World) (f : ℕ) where
  -- what answers the frame
  abbrev out : Said
  out = said (frame_taken w.state w.toloop f).answer

  abbrev r : Role
  r = w.state.talker.role

  not_data : 4 ≤ control_of f → is_data f ≡ false
  not_data h = le-ltb (control_of f) 4 h

  command_on : control_of f ≡ 4 → out ≡ as_frame f
  unfolding frame_taken command said
  command_on c = rw (not_data (omega arith), eq-eqb (control_of f) 4 c)

  data_on : is_others w f ≡ true → out ≡ as_frame (requested w f)
  unfolding frame_taken data_taken serviced said
  data_on h =
      let n = neither (loop_active w) (loop_listens w) (not-true _ (and_right (is_data f) _ h)) in
      rw (and_left (is_data f) _ h, n.0, n.1)

  -- a ready frame is nothing else
  is_ready : control_of f ≡ 5 → frame_taken w.state w.toloop f ≡ ready w.state w.toloop f
  unfolding frame_taken
  is_ready c = rw (not_data (omega arith), ne_eqb (control_of f) 4 (λ e. omega arith), eq-eqb (control_of f) 5 c)

  address_on : control_of f ≡ 5 → assigns r (data_of f) ≡ true → out ≡ frame 5 (data_of f + 1)
  unfolding ready readied ready_of said
  address_on c a =
      let b = and_left (leb 128 (data_of f) && ltb (data_of f) 159) _ a in
      let low = leb-true 128 (data_of f) (and_left (leb 128 (data_of f)) _ b) in
      let high = ltb-true (data_of f) 159 (and_right (leb 128 (data_of f)) _ b) in
      rw (is_ready c, ne_eqb (data_of f) 66 (λ e. omega arith), sym (address_numbers r (data_of f)) ∙ a)
      (λ i. frame (control_made 5 (data_of f + 1) (omega arith) i) (data_made 5 (data_of f + 1) (omega arith) i))

  -- no addressed talker is asked
  not_asked : (m : ℕ) → 96 ≤ m → m ≤ 99 → (loop_addressed w && (leb 96 (data_of f) && leb (data_of f) 99)) ≡ false →
      (eqb (data_of f) m && eqb r.phase 1) ≡ false
  not_asked m low high n = go (eqb (data_of f) m) refl (eqb r.phase 1) refl
    where
      go : (t : Bool) → eqb (data_of f) m ≡ t → (u : Bool) → eqb r.phase 1 ≡ u → (t && u) ≡ false
      go true e true a =
          let q = eqb-true (data_of f) m e in
          absurd (false≢true (sym n ∙ rw (a, le-leb 96 (data_of f) (omega arith), le-leb (data_of f) 99 (omega arith))))
      go true e false a = refl
      go false e u a = refl

  ready_on : control_of f ≡ 5 → assigns r (data_of f) ≡ false → asks_us w (data_of f) ≡ false → out ≡ as_frame f
  unfolding ready readied ready_of identities said
  ready_on c a n =
      let m = neither (loop_addressed w && (leb 96 (data_of f) && leb (data_of f) 99)) _ n in
      let no : (k : ℕ) → 96 ≤ k → k ≤ 99 → (eqb (data_of f) k && eqb r.phase 1) ≡ false = λ k l h. not_asked k l h m.0 in
      rw (is_ready c, m.1, sym (address_numbers r (data_of f)) ∙ a, no 96 (omega arith) (omega arith), no 97 (omega arith) (omega arith))
      (by_cond Passes (eqb (data_of f) 66 && eqb r.phase 2) Finish Pass (λ _. refl)
      (λ _. rw (no 98 (omega arith) (omega arith), no 99 (omega arith) (omega arith))))
    where
      Passes : Ready → Type 0
      Passes k = said (readied w.state w.toloop f k).answer ≡ as_frame f

  -- the byte of the device ID after n of them
  id_sent : (n : ℕ) → said (send_id w.state n).answer ≡ id_after w n
  unfolding send_id ended sends serviced id_byte said
  id_sent n = by_cond Sent (leb 10 n) _ _ (λ e. rw e) (λ e. rw e)
    where
      Sent : Outcome → Type 0
      Sent o = said o.answer ≡ id_after w n

  device_on : f ≡ made 5 98 → loop_addressed w ≡ true → out ≡ id_after w 0
  unfolding frame_taken ready readied ready_of identities send_id sends serviced id_byte said
  device_on q a = rw (q, a)

  accessory_on : f ≡ made 5 99 → loop_addressed w ≡ true → out ≡ as_frame (requested w (made 0 67))
  unfolding frame_taken ready readied ready_of identities send_accessory sends serviced said
  accessory_on q a = rw (q, a)

  next_id : goes_on_with_id w f ≡ true → frame_taken w.state w.toloop f ≡ send_id w.state w.state.source
  unfolding frame_taken data_taken return_of judged send_next
  next_id h =
      let x = (and-eq-true_iff (is_data f && same_apart f w.state.talker.under.frame) _).0 h in
      let y = (and-eq-true_iff (is_data f) _).0 x.0 in
      let z = (and-eq-true_iff (eqb r.phase 2 && not w.state.talker.under.finishing) _).0 x.1 in
      let u = (and-eq-true_iff (eqb r.phase 2) _).0 z.0 in
      let two = eqb-true r.phase 2 u.0 in
      rw (
        y.0,
        le-leb 2 r.phase (omega arith),
        y.1,
        ne_eqb r.phase 3 (λ e. omega arith),
        not-true w.state.talker.under.finishing u.1,
        not-true (eqb w.state.source 0) z.1,
      )

  id_on : goes_on_with_id w f ≡ true → out ≡ id_after w w.state.source
  id_on h = ap (λ (o : Outcome). said o.answer) (next_id h) ∙ id_sent w.state.source

  passed_on : (v : World) → PassedOn f (record { call = on (loop_frame f); before = w; answer = out; after = v })
  passed_on v =
      record {
        command = command_on;
        others = data_on;
        address = address_on;
        ready = ready_on;
        device = device_on;
        goeson = id_on;
        accessory = accessory_on;
      }

pub frames_pass : Obeys (mailbox step) FramesPass
unfolding not_refused outcome
frames_pass c w _ f q =
    subst (λ (x : Call). taken (step x w).said ≡ true → PassedOn f (seen (mailbox step) x w)) (sym q)
    (by_refusal (λ (d : Did). taken d.said ≡ true → PassedOn f (record { call = on (loop_frame f); before = w; answer = d.said; after = d.world }))
    (on (loop_frame f)) w (λ _ _. passed_on w f _) (λ _ h. absurd (false≢true h)))
