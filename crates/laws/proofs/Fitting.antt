-- Every call keeps a state that fits, and the lengths of both stores. Assumes nothing.
use Prim.Native.Nat.{ℕ, ◌≤◌, ◌<◌}
use native.Mathlib.Omega.{arith}
use mathlib.Core.Path.{◌≡◌, refl, sym, subst, ◌∙◌}
use mathlib.Core.Bool.{Bool, true, false, cond, ◌&&◌, not}
use mathlib.Core.List.{List}
use lib.Dec.{eqb, ltb}
use lib.ListN.{length}
use borrow.Author.Tests.{eqb-true, leb-true}
use Rattle.answers.specs.Refusals.{first_refusal}
use Rattle.branches.proofs.Branches.{and_right, by_cond}
use Rattle.machine.specs.Machine.{Obeys}
use Rattle.frame.specs.Frame.{made, data_of}
use Rattle.registers.specs.Writing.{write_checks, written}
use Rattle.registers.proofs.Fits.{fit_written}
use Rattle.store.specs.declared.Ring.{Ring}
use Rattle.store.specs.Ring as store-ring
use Rattle.store.proofs.Laws as store-laws
use Rattle.store.proofs.Several.{puts_cap, puts_fit, puts_size}
use Rattle.std.specs.Prelude.{Option, Some, None}
use Rattle.sending.specs.Sending.{given_of, send_held, sent_ring}
use Rattle.talker.specs.UnderWay.{talking}
use Rattle.state.specs.declared.State.{State}
use Rattle.state.specs.Outcome.{Outcome}
use Rattle.std.specs.Prelude.{Option, Some, None}
use Rattle.state.specs.declared.Next.{Next}
use Rattle.state.specs.declared.Next.TheVariants as out
use Rattle.answers.specs.Answers.{done}
use Rattle.state.specs.State.{with_registers, with_talker, with_rx, with_tx}
use Rattle.state.specs.Sizes.{sizes_obeyed, fits}
use Rattle.state.specs.Conditions.{settled, conditions, shows, status_of, after_status, after_status_back, break_state, key_state}
use Rattle.state.proofs.Fits.{Tests, tests, rx_fits, tx_fits}
use Rattle.cells.proofs.Newest.{replaced_size}
use Rattle.line.specs.Breaks.{break_cells}
use Rattle.line.specs.HoldingOff.{is_go_or_stop, flowed, stored_with, stored_state, lost_state, line_state}
use Rattle.line.specs.HoldingOff.{line_bytes, resumed, set_afresh, after_write, next_out, gone}
use Rattle.line.proofs.Parts.{gone_some}
use Rattle.loopside.specs.LoopToLine.{adds, added_state, added_bytes}
use Rattle.loopside.specs.Sends.{rule_of, ended, removed_state, send_state, send_from, send_status}
use Rattle.loopside.specs.Frames.{order_in, frame_taken, device_clear, adds_bytes, frame_bytes}
use Rattle.bridge.specs.Calls.{OnState, reset, write, line_byte, line_break, key, ask_line_byte, take_line_byte, loop_frame, Call, create, show, on}
use Rattle.bridge.specs.Calls.{of_frame, World, Did, outcome, settled_by, rx_after, tx_after, not_refused, checks, step}
use Rattle.laws.specs.Bridges.{bridge}
use Rattle.laws.specs.Fitting.{Fits, SameStores, KeepsFit, CreateMakesFit, KeepsStores}
use Rattle.laws.proofs.Refusing.{by_refusal, write_fitting}
use Rattle.laws.proofs.Ways.{Returning, Way, way}
use Rattle.laws.proofs.Ways.{is_next, is_back, is_last, is_damaged, is_stored, is_passed, is_cleared}
use Rattle.laws.proofs.Ways.{is_obeyed, is_assigned, is_send_asked, is_told, is_finishing, is_ready, is_identified}
use Rattle.places.proofs.OneStore.{more_fits}
use Rattle.laws.proofs.Small.{given_small, status_small}
use Rattle.laws.proofs.States.{tested, start_fits, with_registers_lem, with_rx_lem, with_tx_lem}
use Rattle.laws.proofs.States.{talking_tests, obeyed_tests, cleared_tests, assigned_tests, finishing_tests}

-- ---- both stores keep their lengths

line_size : (s : State) (rx : List ℕ) (b : ℕ) → length (line_bytes s rx b) ≡ length rx
unfolding line_bytes
line_size s rx b = by_cond (λ (x : List ℕ). length x ≡ length rx) (is_go_or_stop s.regs b) rx _ (λ _. refl) (λ _. store-laws.put_size rx s.rx b)

frame_size : (s : State) (tx : List ℕ) (f : ℕ) → length (frame_bytes s tx f) ≡ length tx
unfolding frame_bytes added_bytes
frame_size s tx f = by_cond (λ (x : List ℕ). length x ≡ length tx) (adds_bytes s f) _ tx (λ _. puts_size tx s.tx (adds s.regs f)) (λ _. refl)

pub break_size : (s : State) (rx : List ℕ) → length (break_cells s rx) ≡ length rx
unfolding break_cells
break_size s rx = by_cond (λ (x : List ℕ). length x ≡ length rx) (ltb 0 s.rx.len) _ rx (λ _. replaced_size rx s.rx _) (λ _. refl)

rx_size : (c : OnState) (w : World) → length (rx_after c w) ≡ length w.rx
unfolding rx_after
rx_size (line_byte b) w = line_size w.state w.rx b
rx_size reset w = refl
rx_size (write n v) w = refl
rx_size line_break w = break_size w.state w.rx
rx_size key w = refl
rx_size ask_line_byte w = refl
rx_size (take_line_byte b) w = refl
rx_size (loop_frame f) w = refl

tx_size : (c : OnState) (w : World) → length (tx_after c w) ≡ length w.tx
unfolding tx_after
tx_size (loop_frame f) w = frame_size w.state w.tx f
tx_size reset w = refl
tx_size (write n v) w = refl
tx_size (line_byte b) w = refl
tx_size line_break w = refl
tx_size key w = refl
tx_size ask_line_byte w = refl
tx_size (take_line_byte b) w = refl

-- ---- the state that each part leaves

-- a state that fits these stores
abbrev Good : List ℕ → List ℕ → State → Type 0
Good rx tx s = fits s (length rx) (length tx) ≡ true

module _ (rx tx : List ℕ) where
  abbrev G : State → Type 0
  G = Good rx tx

  abbrev T : State → Type 0
  T s = Tests s (length rx) (length tx)

  good : (s : State) → T s → G s
  good s = tested s (length rx) (length tx)

  -- requests, what happened, the line's flags and the counts have no part in fitting: where only these change, `fits` unfolds to the same
  settled_good : (s q : State) → G q → G (settled s q)
  unfolding fits settled
  settled_good s q e = e

  -- a talker in another phase
  talking_good : (q : State) (phase f : ℕ) → G q → 1 ≤ q.talker.role.phase → phase ≤ 3 → f < 1024 → G (with_talker q (talking q.talker phase f))
  talking_good q phase f e h p k = good _ (talking_tests q (length rx) (length tx) (tests q (length rx) (length tx) e) phase f h p k)

  ended_good : (q : State) (d : ℕ) → G q → 1 ≤ q.talker.role.phase → G (ended q d).state
  unfolding ended
  ended_good q d e h = talking_good q 1 0 e h (omega arith) (omega arith)

  given_good : (p q : State) (d : Option ℕ) → G q → 1 ≤ q.talker.role.phase → ((g : ℕ) → d ≡ Some g → g < 1024) → G (send_state p q d).state
  unfolding send_state
  given_good p q None e h k = ended_good q 64 e h
  given_good p q (Some g) e h k = unfold fits in talking_good q 2 g e h (omega arith) (k g refl)

  module _ (s : State) (e : G s) where
    t : T s
    t = tests s (length rx) (length tx) e

    fits_with_rx : (r : Ring) → store-ring.Fit rx r → G (with_rx s r)
    fits_with_rx r h = good _ (with_rx_lem s (length rx) (length tx) t r (store-laws.fit_test_lem rx r h))

    fits_with_tx : (r : Ring) → store-ring.Fit tx r → G (with_tx s r)
    fits_with_tx r h = good _ (with_tx_lem s (length rx) (length tx) t r (store-laws.fit_test_lem tx r h))

    stored_good : G (stored_state s)
    unfolding fits stored_with
    stored_good =
        fits_with_rx (store-ring.put_ring s.rx) (more_fits rx s.rx (rx_fits s rx tx e).ring)

    line_good : (x : ℕ) → G (line_state s x)
    unfolding line_state
    line_good x =
        by_cond G (is_go_or_stop s.regs x) _ _ (λ _. unfold fits flowed in e)
        (λ _. by_cond G (store-ring.full s.rx) _ _ (λ _. unfold fits lost_state in e) (λ _. stored_good))

    write_good : (n v : ℕ) → first_refusal (write_checks s.regs n v) ≡ 0 → G (after_write s n (written s.regs n v))
    unfolding after_write
    write_good n v h = by_cond G (eqb n 11) _ _ (λ _. unfold fits set_afresh in changed) (λ _. changed)
      where
        changed : G (with_registers s (written s.regs n v))
        changed = good _ (with_registers_lem s (length rx) (length tx) t (written s.regs n v) (fit_written s.regs n v t.regs h))

    gone_good : (o : Option Next) → o ≡ next_out s tx → G (gone s o)
    unfolding gone
    gone_good (Some (out.Own x)) h = unfold fits in e
    gone_good (Some (out.Held x)) h =
        fits_with_tx (store-ring.drop_ring s.tx 1)
        (store-laws.drop_fit tx s.tx 1 (tx_fits s rx tx e).ring (gone_some s tx x h))
    gone_good None h = e

    left_good : (f : ℕ) → G (added_state s f)
    unfolding added_state
    left_good f =
        let l : List ℕ = adds s.regs f in
        let fit : store-ring.Fit tx s.tx = (tx_fits s rx tx e).ring in
        fits_with_tx (store-ring.puts_ring s.tx l) (record { cap = puts_cap s.tx l ∙ fit.cap; within = (puts_fit tx s.tx l fit).within })

    removed_good : G (removed_state s rx)
    unfolding removed_state sent_ring
    removed_good =
        unfold fits resumed in
        (fits_with_rx (sent_ring (rule_of s.regs) rx s.rx) (store-laws.drop_fit rx s.rx _ (rx_fits s rx tx e).ring (omega arith)))

    send_good : 1 ≤ s.talker.role.phase → G (send_from s rx).state
    unfolding send_from
    send_good h =
        given_good s (removed_state s rx) (given_of (send_held (rule_of s.regs) rx s.rx)) removed_good (unfold removed_state resumed in h)
        (λ g k. given_small (rule_of s.regs) rx s.rx g k)

    status_good : 1 ≤ s.talker.role.phase → G (send_status s).state
    unfolding send_status status_of after_status
    status_good h =
        talking_good (after_status s) 3 (made 0 (status_of s)) (unfold fits after_status in e) (unfold after_status in h) (omega arith)
        (omega (arith, status_small (conditions s) (shows s)))

    -- an active talker, and one that is asked to send
    active : (f : ℕ) → Returning s f → 1 ≤ s.talker.role.phase
    active f r = omega (arith, leb-true 2 s.talker.role.phase r.active)

    asked : (d : Bool) → (d && eqb s.talker.role.phase 1) ≡ true → 1 ≤ s.talker.role.phase
    asked d x = omega (arith, eqb-true s.talker.role.phase 1 (and_right d (eqb s.talker.role.phase 1) x))

    way_good : (f : ℕ) (o : Outcome) → Way s rx f o → G o.state
    way_good f o (is_next r m k n) = send_good (active f r)
    way_good f o (is_back r m k) =
        ended_good (after_status_back s (data_of s.talker.under.frame)) 64 (unfold fits after_status_back in e) (unfold after_status_back in active f r)
    way_good f o (is_last r m k n) = ended_good s 64 e (active f r)
    way_good f o (is_damaged r m) = ended_good s 65 e (active f r)
    way_good f o (is_stored r l) = left_good f
    way_good f o (is_passed r l) = e
    way_good f o (is_cleared r c) = good _ (cleared_tests _ (length rx) (length tx) (obeyed_tests s (length rx) (length tx) t (order_in s f)))
    way_good f o (is_obeyed r c) = good _ (obeyed_tests s (length rx) (length tx) t (order_in s f))
    way_good f o (is_assigned r a) = good _ (assigned_tests s (length rx) (length tx) t (data_of f))
    way_good f o (is_send_asked r a x) = send_good (asked (eqb (data_of f) 96) x)
    way_good f o (is_told r a x y) = status_good (asked (eqb (data_of f) 97) y)
    way_good f o (is_finishing r a x y z) = good _ (finishing_tests s (length rx) (length tx) t)
    way_good f o (is_ready r a x y z) = e
    way_good f o (is_identified r) = e

-- ---- every call

-- create is accepted exactly where the sizes are obeyed
create_good : (m : ℕ) (w : World) → first_refusal (checks (create m) w) ≡ 0 → Fits (not_refused (create m) w).world
unfolding checks not_refused
create_good m w h = start_fits m (length w.rx) (length w.tx) (go (sizes_obeyed m (length w.rx) (length w.tx)) h)
  where
    go : (t : Bool) → ◌≡◌ {A = ℕ} (cond (not t) 1 0) 0 → t ≡ true
    go true h = refl
    go false h = absurd (omega arith)

module _ (w : World) (e : Fits w) where
  outcome_good : (c : OnState) → first_refusal (checks (on c) w) ≡ 0 → Good w.rx w.tx (outcome c w).state
  unfolding outcome
  outcome_good reset h = start_fits w.state.margin (length w.rx) (length w.tx) (tests w.state (length w.rx) (length w.tx) e).sizes
  outcome_good (write n v) h = write_good w.rx w.tx w.state e n v (write_fitting n v w h).1.0
  outcome_good (line_byte x) h = line_good w.rx w.tx w.state e x
  outcome_good line_break h = unfold fits break_state in e
  outcome_good key h = unfold fits key_state in e
  outcome_good ask_line_byte h = e
  outcome_good (take_line_byte b) h = gone_good w.rx w.tx w.state e (next_out w.state w.tx) refl
  outcome_good (loop_frame f) h = way_good w.rx w.tx w.state e f (frame_taken w.state w.rx f) (way w.state w.rx f)

  -- requests are settled or not, and the stores keep their lengths
  pub state_good : (c : OnState) → first_refusal (checks (on c) w) ≡ 0 → Fits (not_refused (on c) w).world
  unfolding not_refused settled_by
  state_good c h =
      rw (rx_size c w, tx_size c w)
      (by_cond (Good w.rx w.tx) (of_frame (device_clear w.state) false c) _ _
      (λ _. outcome_good c h) (λ _. settled_good w.rx w.tx w.state _ (outcome_good c h)))

pub keeps_fit : Obeys (bridge step) KeepsFit
keeps_fit c w _ e = by_refusal (λ (d : Did). Fits d.world) c w (go c) (λ _. e)
  where
    go : (c : Call) → first_refusal (checks c w) ≡ 0 → Fits (not_refused c w).world
    go (create m) h = create_good m w h
    go (show side) h = unfold not_refused in e
    go (on c) h = state_good w e c h

pub create_fits_so : (m : ℕ) (w : World) → (step (create m) w).said ≡ done → Fits (step (create m) w).world
create_fits_so m w =
    by_refusal (λ (d : Did). d.said ≡ done → Fits d.world) (create m) w (λ h _. create_good m w h)
    (λ _ z. let y : ◌≡◌ {A = ℕ} 0 1 = cc in absurd (omega arith))

pub create_makes_fit : Obeys (bridge step) CreateMakesFit
create_makes_fit c w _ m q = subst (λ (x : Call). (step x w).said ≡ done → Fits (step x w).world) (sym q) (create_fits_so m w)

stores_kept : (c : Call) (w : World) → SameStores w (not_refused c w).world
unfolding not_refused
stores_kept (create m) w = record { rx = refl; tx = refl }
stores_kept (show side) w = record { rx = refl; tx = refl }
stores_kept (on c) w = record { rx = rx_size c w; tx = tx_size c w }

pub stores_stay : (c : Call) (w : World) → SameStores w (step c w).world
stores_stay c w = by_refusal (λ (d : Did). SameStores w d.world) c w (λ _. stores_kept c w) (λ _. record { rx = refl; tx = refl })

pub keeps_stores : Obeys (bridge step) KeepsStores
keeps_stores c w _ = stores_stay c w
