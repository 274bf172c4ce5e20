-- A send that finds no frame leaves two bytes at most, so holding off ends. Assumes nothing.
use Prim.Native.Nat.{ℕ, ◌-◌, ◌*◌, ◌≤◌}
use native.Mathlib.Omega.{arith}
use mathlib.Core.Path.{◌≡◌, refl, sym, subst, ◌∙◌}
use mathlib.Core.Bool.{Bool, true, false, cond, ◌&&◌, not, false≢true}
use mathlib.Core.List.{List, [], ◌∷◌}
use lib.ListN.{length}
use borrow.Author.Tests.{le-leb}
use Rattle.reading.specs.declared.Rule.{Rule}
use Rattle.reading.specs.declared.Decision.{Decision}
use Rattle.reading.specs.declared.Decision.TheVariants.{Removed, End, Data, Wait}
use Rattle.reading.specs.Reading.{wait, skip, give, Sent, none, one, sent_rest, send}
use Rattle.reading.specs.Received.{Received, a_byte, a_break, received_in, bytes_in}
use Rattle.reading.proofs.Decided.{fewer_bytes}
use Rattle.reading.specs.Steps.{is_byte, starts_with_pair, decision, carried, cut}
use Rattle.reading.proofs.Cuts.{by_cuts_lem}
use Rattle.reading.proofs.Reading.{send_at}
use Rattle.reading.proofs.Lawful.{lawful}
use Rattle.store.specs.Ring.{held}
use Rattle.store.specs.Ring as store-ring
use Rattle.store.proofs.Laws.{drop_len}
use Rattle.sending.specs.Sending.{given_of, send_held, sent_ring}
use Rattle.state.specs.declared.State.{State}
use Rattle.state.specs.Sizes.{fits}
use Rattle.state.specs.Conditions.{settled}
use Rattle.state.proofs.Fits.{sizes_hold, tests, rx_fits}
use Rattle.line.specs.HoldingOff.{resumed}
use Rattle.talker.specs.UnderWay.{talking}
use Rattle.loopside.specs.Sends.{rule_of, ended, removed_state, send_state, send_from}
use Rattle.answers.specs.Refusals.{first_refusal}
use Rattle.branches.proofs.Branches.{cond_false}
use Rattle.state.specs.Outcome.{Outcome}
use Rattle.answers.specs.Answers.{said}
use Rattle.loopside.specs.Frames.{device_clear}
use Rattle.bridge.specs.Calls.{on, loop_frame, World, Did, checks, outcome, settled_by, step}
use Rattle.bridge.specs.Calls as calls
use Rattle.laws.specs.Observers.{taken, is_send, data_frame, sent}
use Rattle.laws.specs.Worlds.{holds_off, held_cells}
use Rattle.laws.specs.Resuming.{EmptySendResumes}
use Rattle.runs.proofs.Shapes.{Fits}
use Rattle.runs.proofs.Refusals.{if_taken, frame_fits}
use Rattle.runs.proofs.Bytes.{sent_plain}
use Rattle.runs.proofs.Sends.{sent_cap, seen_plain}
use Rattle.runs.proofs.FrameKinds.{send_alone, sends_from, kind_of}
use Rattle.machine.specs.Machine.{Obeys}
use Rattle.runs.proofs.Steps.{ours, answer, after, at_call}

-- ---- two bytes at most are undecided

abbrev Few : Decision → ℕ → Type 0
Few Wait n = n ≤ 2
Few Removed n = Unit {0}
Few End n = Unit {0}
Few Data n = Unit {0}

wait_few : (r : Rule) (xs : List Received) → Few (decision r xs) (length xs)
wait_few r [] = omega arith
wait_few r (a ∷ []) = one_of r.on (is_byte r.c00 a)
  where
    one_of : (on last : Bool) → Few (cond on (cond last Wait Wait) Data) 1
    one_of true true = omega arith
    one_of true false = omega arith
    one_of false last = tt
wait_few r (a ∷ b ∷ []) = two_of r.on (starts_with_pair r (a ∷ b ∷ [])) (is_byte r.c00 b)
  where
    two_of : (on pair last : Bool) → Few (cond on (cond pair Removed (cond last Wait Data)) Data) 2
    two_of true true last = tt
    two_of true false true = omega arith
    two_of true false false = tt
    two_of false pair last = tt
wait_few r (a ∷ b ∷ c ∷ xs) = more_of r.on (starts_with_pair r (a ∷ b ∷ c ∷ xs)) (starts_with_pair r (b ∷ c ∷ xs))
  where
    more_of : (on pair next : Bool) → Few (cond on (cond pair Removed (cond next End Data)) Data) (length (a ∷ b ∷ c ∷ xs))
    more_of true true next = tt
    more_of true false true = tt
    more_of true false false = tt
    more_of false pair next = tt

-- what is left where the rule waits
cut_few : (r : Rule) (xs : List Received) → cut r xs ≡ wait → bytes_in xs ≤ 2
unfolding cut bytes_in
cut_few r [] e = omega arith
cut_few r (a_break ∷ xs) e = let z : ◌≡◌ {A = ℕ} 0 1 = cc in absurd (omega arith)
cut_few r (a_byte b ∷ xs) e = omega (arith, fewer_bytes xs, go (decision r (a_byte b ∷ xs)) (wait_few r (a_byte b ∷ xs)) e)
  where
    go : (d : Decision) → Few d (length (a_byte b ∷ xs)) → carried d b (a_byte b ∷ xs) ≡ wait → length (a_byte b ∷ xs) ≤ 2
    go Wait h e = h
    go Removed h e = let z : ◌≡◌ {A = ℕ} 0 1 = cc in absurd (omega arith)
    go End h e = let z : ◌≡◌ {A = ℕ} 0 1 = cc in absurd (omega arith)
    go Data h e = let z : ◌≡◌ {A = ℕ} 0 1 = cc in absurd (omega arith)

abbrev FewLeft : Sent Received ℕ → Type 0
FewLeft (none rest) = bytes_in rest ≤ 2
FewLeft (one f rest) = Unit {0}

few_left : (r : Rule) (xs : List Received) → FewLeft (send (cut r) xs)
few_left r =
    by_cuts_lem (cut r) (lawful r) (λ xs. FewLeft (send (cut r) xs))
    (λ xs e. subst FewLeft (sym (send_at (cut r) (lawful r) xs wait e)) (cut_few r xs e))
    (λ xs s e ih. subst FewLeft (sym (send_at (cut r) (lawful r) xs (skip s) e)) ih)
    (λ xs f s e ih. subst FewLeft (sym (send_at (cut r) (lawful r) xs (give f s) e)) tt)

-- ---- so holding off ends

none_resumes : (s : State) (rx tx : List ℕ) (r : List Received) → fits s (length rx) (length tx) ≡ true → send_held (rule_of s.regs) rx s.rx ≡ none r →
    (removed_state s rx).line.holding ≡ false
none_resumes s rx tx r e h = unfold removed_state resumed in off s.line.holding _ (le-leb (2 * s.margin) _ room)
  where
    few : bytes_in (sent_rest (send_held (rule_of s.regs) rx s.rx)) ≤ 2
    few =
        let l : bytes_in r ≤ 2 = subst FewLeft h (unfold send_held in few_left (rule_of s.regs) (received_in (held rx s.rx))) in
        subst (λ (x : Sent Received ℕ). bytes_in (sent_rest x) ≤ 2) (sym h) l

    left : (sent_ring (rule_of s.regs) rx s.rx).len ≤ 2
    left = unfold sent_ring in omega (arith, few, drop_len s.rx (s.rx.len - bytes_in (sent_rest (send_held (rule_of s.regs) rx s.rx))))

    room : 2 * s.margin ≤ store-ring.room (sent_ring (rule_of s.regs) rx s.rx)
    room =
        let t = tests s (length rx) (length tx) e in
        let fit = (rx_fits s rx tx e).ring in
        omega (arith, left, fit.cap, sent_cap (rule_of s.regs) rx s.rx fit, (sizes_hold s.margin (length rx) (length tx) t.sizes).rx_least)

    off : (x y : Bool) → y ≡ true → (x && not y) ≡ false
    off true true q = refl
    off false y q = refl
    off true false q = absurd (false≢true q)

-- ---- every send

module _ (w : World) (F : Fits w) where
  abbrev Resumes : Outcome → Type 0
  Resumes o = data_frame (said o.answer) ≡ [] → o.state.line.holding ≡ false

  pub send_resumes : Resumes (send_from w.state w.rx)
  unfolding send_from send_state ended talking send_held
  send_resumes = go (send_held (rule_of w.state.regs) w.rx w.state.rx) refl
    where
      go : (x : Sent Received ℕ) → send_held (rule_of w.state.regs) w.rx w.state.rx ≡ x →
          Resumes (send_state w.state (removed_state w.state w.rx) (given_of x))
      go (none r) e = λ _. none_resumes w.state w.rx w.tx r F e
      go (one g r) e = λ n. let z : g ∷ [] ≡ [] = sym (seen_plain w.state g (sent_plain (rule_of w.state.regs) (held_cells w) g r e)) ∙ n in cc

settled_off : (s u : State) (t : Bool) → u.line.holding ≡ false → (cond t u (settled s u)).line.holding ≡ false
unfolding settled
settled_off s u true h = h
settled_off s u false h = h

pub empty_send_resumes : Obeys ours EmptySendResumes
unfolding step calls.not_refused outcome settled_by sent
empty_send_resumes c w b f =
    at_call (λ c. taken (answer c w) ≡ true → is_send w.state f ≡ true → sent c w (answer c w) ≡ [] → holds_off (after c w) ≡ false) (on (loop_frame f))
    (λ t S n.
    if_taken (λ (d : Did). data_frame d.said ≡ [] → d.world.state.line.holding ≡ false) (first_refusal (checks (on (loop_frame f)) w))
    (calls.not_refused (on (loop_frame f)) w) w
    (λ e q.
    let F : Fits w = frame_fits f w e in
    settled_off w.state _ (device_clear w.state f)
    (subst (Resumes w F) (sym (sends_from w.state w.rx f _ (kind_of f w F) S)) (send_resumes w F) q))
    t (sym (cond_false _ _ _ (send_alone w.state f S)) ∙ n))
    c
