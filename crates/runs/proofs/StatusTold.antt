-- What the status byte tells. Assumes nothing.
use Prim.Native.Nat.{ℕ, ◌+◌}
use native.Mathlib.Omega.{arith}
use mathlib.Core.Path.{◌≡◌, refl, sym, ap, subst, ◌∙◌}
use mathlib.Core.Bool.{Bool, true, false≢true, cond}
use mathlib.Core.Logic.{⊎_elim}
use mathlib.Core.List.{[], ◌∷◌}
use Rattle.branches.proofs.Branches.{cond_true}
use Rattle.answers.specs.Refusals.{first_refusal}
use Rattle.frame.specs.Frame.{made}
use Rattle.state.specs.Outcome.{Outcome}
use Rattle.answers.specs.Answers.{said}
use Rattle.state.specs.Conditions.{status_of, conditions}
use Rattle.state.specs.Conditions as state-status
use Rattle.loopside.specs.Sends.{send_status}
use Rattle.bridge.specs.Calls.{on, loop_frame, World, Did, checks, outcome, step}
use Rattle.bridge.specs.Calls as calls
use Rattle.laws.specs.Observers.{taken, asks_status, data_frame, status_sent}
use Rattle.laws.specs.Events.{Event, bit_of, broken, overrun, pressed, noted}
use Rattle.status.specs.Status.{showed, status_byte}
use Rattle.laws.specs.StatusTold.{StatusTold, Shows, TellsUntilBack, number_of, status_bits, place}
use Rattle.runs.proofs.Answered.{status_frame, status_small}
use Rattle.runs.proofs.Bytes.{plain_data}
use Rattle.runs.proofs.FrameKinds.{sends_status, kind_of}
use Rattle.runs.proofs.Refusals.{if_taken, frame_fits}
use Rattle.runs.proofs.Events.{events_stay}
use Rattle.runs.proofs.Steps.{after, end, ours, answer, at_call, at_left}
use Rattle.machine.specs.Machine.{Obeys, finally}
use Rattle.laws.specs.Fitting.{Fits}
use Rattle.registers.specs.Bits.{bit}
use Rattle.runs.proofs.Bits.{weight_of, event_shown, weighs}
use Rattle.state.specs.declared.State.{State}
use Rattle.laws.proofs.Refusing.{taken_fits}
use Rattle.runs.proofs.Conditions.{empty_same, room_same, some_same, full_same}

told : (f : ℕ) (w : World) → taken (answer (on (loop_frame f)) w) ≡ true → asks_status w.state f ≡ true →
    status_sent (on (loop_frame f)) w (answer (on (loop_frame f)) w) ≡ made 0 (status_of w.state) ∷ []
unfolding step calls.not_refused outcome status_sent send_status
told f w t A =
    cond_true _ _ _ A
    ∙ if_taken (λ (d : Did). data_frame d.said ≡ made 0 (status_of w.state) ∷ []) (first_refusal (checks (on (loop_frame f)) w))
    (calls.not_refused (on (loop_frame f)) w) w
    (λ e.
    ap (λ (o : Outcome). data_frame (said o.answer)) (sends_status w.state w.rx f _ (kind_of f w (frame_fits f w e)) A) ∙ status_frame w.state
    ∙ ap (λ (x : ℕ). x ∷ []) (plain_data (status_of w.state) (status_small w.state)).bare)
    t

-- the status byte by the numbers held and the notes
bits_sum : (a b c d e o r k : Bool) →
    made 0 (((cond a 1 0 + cond b 2 0) + cond c 4 0 + cond d 8 0) + ((cond e 16 0 + cond o 32 0) + cond r 64 0 + cond k 128 0))
    ≡ number_of (a ∷ b ∷ c ∷ d ∷ e ∷ o ∷ r ∷ k ∷ [])
unfolding number_of
bits_sum a b c d e o r k = omega (arith, weighs b 2, weighs c 4, weighs d 8, weighs e 16, weighs o 32, weighs r 64, weighs k 128)

byte_is : (w : World) → Fits w → made 0 (status_of w.state) ≡ number_of (status_bits w)
unfolding status_of status_byte conditions state-status.shows
byte_is w F =
    let c = conditions w.state in
    bits_sum c.txempty c.txnotfull c.rxnotempty c.rxfull c.brk c.overrun (state-status.shows w.state) c.key
    ∙ (λ i. number_of
    (empty_same w F i ∷ room_same w F i ∷ some_same w F i ∷ full_same w F i ∷ c.brk ∷ c.overrun ∷ state-status.shows w.state ∷ c.key ∷ []))

pub status_told : Obeys ours StatusTold
status_told c w B f =
    at_call (λ c. taken (answer c w) ≡ true → asks_status w.state f ≡ true → status_sent c w (answer c w) ≡ number_of (status_bits w) ∷ []) (on (loop_frame f))
    (λ t A. told f w t A ∙ ap (λ (n : ℕ). n ∷ []) (byte_is w (taken_fits (loop_frame f) w t))) c

-- the bit of what happened in the byte that is sent
shown : (e : Event) (s : State) → bit (place e) (made 0 (status_of s)) ≡ noted e s.notes.seen
shown e s = ap (bit (place e)) plain ∙ at e ∙ event_shown e s
  where
    plain : made 0 (status_of s) ≡ status_of s
    plain = omega arith

    at : (e : Event) → bit (place e) (status_of s) ≡ showed (status_of s) (weight_of e)
    at broken = refl
    at overrun = refl
    at pressed = refl

pub tells_until_back : (e : Event) → Obeys ours (TellsUntilBack e)
tells_until_back e c cs d w B j k h n b f =
    at_call (λ d. taken (answer d u) ≡ true → asks_status u.state f ≡ true → Shows e (status_sent d u (answer d u))) (on (loop_frame f))
    (at_left (λ u. taken (answer (on (loop_frame f)) u) ≡ true → asks_status u.state f ≡ true →
    Shows e (status_sent (on (loop_frame f)) u (answer (on (loop_frame f)) u))) cs (after c w)
    (λ t A. ⊎_elim
    (λ (x : bit_of e v ≡ true). subst (Shows e) (sym (told f v t A)) (shown e v.state ∙ x))
    (λ y. absurd (false≢true (sym b ∙ y)))
    (events_stay e c cs w B j k h n)))
    d
  where
    u : World
    u = finally ours cs (after c w)

    v : World
    v = end cs (after c w)
