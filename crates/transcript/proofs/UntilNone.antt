-- Every world of a run fits the stores, so that the asks are enough. Assumes nothing.
use Prim.Native.Nat.{ℕ, zero, suc, ◌+◌}
use mathlib.Core.Path.{◌≡◌, refl, ◌∙◌}
use mathlib.Core.List.{List}
use lib.Dec.{eqb}
use lib.ListN.{length, get_or}
use Rattle.answers.specs.Refusals.{first_refusal}
use Rattle.branches.proofs.Branches.{by_cond}
use Rattle.state.specs.declared.State.{State}
use Rattle.state.specs.Sizes.{sizes_obeyed, start_state}
use Rattle.bridge.specs.Calls.{Call, on, write, line_byte, loop_frame, World, world, Did, checks, rx_after, tx_after, not_refused, refused_or, step}
use Rattle.laws.specs.Fitting.{Fits}
use Rattle.laws.proofs.States.{start_fits}
use Rattle.laws.proofs.Fitting.{keeps_fit, stores_stay}
use Rattle.transcript.specs.declared.Sections.{Sections}
use Rattle.transcript.specs.Input.{high}
use Rattle.answers.specs.Answers.{fault_of}
use Rattle.transcript.specs.Transcript.{Set, set_registers, line_bytes_in, frames_world, store}
use Rattle.transcript.specs.UntilNone.{run_world, UntilNone}
use Rattle.transcript.proofs.Asks.{asks_enough}

-- a world of the program
record Right (w : World) : Type 0 where
  fits : Fits w
  size : length w.tx ≡ 64

step_right : (c : Call) (w : World) → Right w → Right (step c w).world
step_right c w r = record { fits = keeps_fit c w tt r.fits; size = (stores_stay c w).tx ∙ r.size }

start_right : Right (world (start_state 8 64 64) store store)
unfolding sizes_obeyed
start_right = record { fits = start_fits 8 64 64 refl; size = refl }

-- a register write leaves both stores
write_stores : (n v : ℕ) (w : World) → ((step (on (write n v)) w).world.rx ≡ w.rx) × ((step (on (write n v)) w).world.tx ≡ w.tx)
unfolding step refused_or not_refused rx_after tx_after
write_stores n v w =
    by_cond (λ (d : Did). (d.world.rx ≡ w.rx) × (d.world.tx ≡ w.tx)) (eqb (first_refusal (checks (on (write n v)) w)) 0) _ _
    (λ _. (refl, refl))
    (λ _. (refl, refl))

same_stores : {rx rx' tx tx' : List ℕ} (s : State) → rx ≡ rx' → tx ≡ tx' → Right (world s rx tx) → Right (world s rx' tx')
same_stores s e f r = rw (← e, ← f) r

set_right : (n : ℕ) (x : List ℕ) (i : ℕ) (w : World) → Right w → Right (world (set_registers n x i w).state w.rx w.tx)
unfolding set_registers
set_right zero x i w r = r
set_right (suc n) x i w r =
    let c : Call = (on (write (get_or x i 0) (get_or x (i + 1) 0))) in
    by_cond (λ (g : Set). Right (world g.state w.rx w.tx)) (eqb (fault_of (step c w).said) 0) _ _
    (λ _. let kept = write_stores (get_or x i 0) (get_or x (i + 1) 0) w in
    same_stores _ kept.0 kept.1 (set_right n x (i + 2) (step c w).world (step_right c w r)))
    (λ _. r)

line_in_right : (n : ℕ) (x : List ℕ) (i : ℕ) (w : World) → Right w → Right (line_bytes_in n x i w)
unfolding line_bytes_in
line_in_right zero x i w r = r
line_in_right (suc n) x i w r = line_in_right n x (i + 1) (step (on (line_byte (get_or x i 0))) w).world (step_right (on (line_byte (get_or x i 0))) w r)

frames_right : (n : ℕ) (x : List ℕ) (i : ℕ) (w : World) → Right w → Right (frames_world n x i w)
unfolding frames_world
frames_right zero x i w r = r
frames_right (suc n) x i w r = frames_right n x (i + 2) (step (on (loop_frame (high x i))) w).world (step_right (on (loop_frame (high x i))) w r)

run_right : (x : List ℕ) (p : Sections) → Right (run_world x p)
run_right x p = frames_right _ x _ _ (line_in_right _ x _ _ (set_right p.regs x 2 (world (start_state 8 64 64) store store) start_right))

pub asks_until_none : UntilNone
asks_until_none x p = let r : Right (run_world x p) = run_right x p in asks_enough (run_world x p) r.fits r.size
