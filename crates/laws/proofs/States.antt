-- A state that fits, changed by one part of a call, fits. Assumes nothing.
use Prim.Native.Nat.{ℕ, ◌≤◌, ◌<◌}
use native.Mathlib.Omega.{arith}
use mathlib.Core.Path.{◌≡◌, refl, sym, ◌∙◌}
use mathlib.Core.Bool.{true}
use borrow.Author.Tests.{eq-eqb, lt-ltb, le-leb}
use Rattle.registers.specs.declared.Registers.{Registers}
use Rattle.registers.specs.RegistersFit.{registers_fit}
use Rattle.registers.proofs.Fits.{fit_start}
use Rattle.role.specs.declared.Order.{Order}
use Rattle.talker.specs.declared.Talker.{Talker}
use Rattle.talker.specs.Talker.{start_talker}
use Rattle.talker.specs.Readied.{assigned_talker, finishing_talker}
use Rattle.talker.specs.UnderWay.{talking}
use Rattle.talker.specs.TalkerFit as talker-fit
use Rattle.talker.proofs.FitLaws as talker-laws
use Rattle.store.specs.declared.Ring.{Ring}
use Rattle.store.specs.Ring as store-ring
use Rattle.store.specs.Ring.{empty_ring}
use Rattle.store.proofs.Laws.{fit_cap}
use Rattle.state.specs.declared.State.{State}
use Rattle.state.specs.State.{with_registers, with_talker, with_rx, with_tx}
use Rattle.state.specs.Sizes.{sizes_obeyed, start_state, fits}
use Rattle.state.proofs.Fits.{Obeyed, sizes_hold, Tests}
use Rattle.state.proofs.Parts.{fits_met}
use Rattle.loopside.specs.Frames.{cleared, obeyed}

-- the tests of a state make it fit
pub tested : (s : State) (a b : ℕ) → Tests s a b → fits s a b ≡ true
tested s a b t =
    sym (fits_met s a b _ _ _ _ _ refl refl refl refl refl) ∙ rw (t.rx_ring, t.tx_ring, t.sizes, t.regs, t.talker)

-- an empty ring fits
empty_test : (a n : ℕ) → n ≡ a → 0 < a → a ≤ 32768 → store-ring.fit_test a (empty_ring n) ≡ true
unfolding store-ring.fit_test
empty_test a n e h k = rw (eq-eqb n a e, lt-ltb 0 a h, le-leb 0 a (omega arith), le-leb a 32768 k)

pub start_fits : (m a b : ℕ) → sizes_obeyed m a b ≡ true → fits (start_state m a b) a b ≡ true
unfolding start_state
start_fits m a b e =
    let r : Obeyed m a b = sizes_hold m a b e in
    tested (start_state m a b) a b
    (record {
      sizes = e;
      regs = fit_start;
      talker = talker-laws.fit_test_lem start_talker talker-laws.fit_start;
      rx_ring = empty_test a a refl (omega (arith, r.rx_least)) r.rx_most;
      tx_ring = empty_test b b refl (omega (arith, r.tx_least)) r.tx_most;
    })

module _ (s : State) (a b : ℕ) (t : Tests s a b) where
  pub with_registers_lem : (g : Registers) → registers_fit g ≡ true → Tests (with_registers s g) a b
  with_registers_lem g e =
      record { sizes = t.sizes; regs = e; talker = t.talker; rx_ring = t.rx_ring; tx_ring = t.tx_ring }

  pub with_talker_lem : (q : Talker) → talker-fit.Fit q → Tests (with_talker s q) a b
  with_talker_lem q e = record { sizes = t.sizes; regs = t.regs; talker = talker-laws.fit_test_lem q e; rx_ring = t.rx_ring; tx_ring = t.tx_ring }

  pub with_rx_lem : (r : Ring) → store-ring.fit_test a r ≡ true → Tests (with_rx s r) a b
  with_rx_lem r e =
      record { sizes = t.sizes; regs = t.regs; talker = t.talker; rx_ring = e; tx_ring = t.tx_ring }

  pub with_tx_lem : (r : Ring) → store-ring.fit_test b r ≡ true → Tests (with_tx s r) a b
  with_tx_lem r e =
      record { sizes = t.sizes; regs = t.regs; talker = t.talker; rx_ring = t.rx_ring; tx_ring = e }

  talker_fits : talker-fit.Fit s.talker
  talker_fits = talker-laws.fit_true s.talker t.talker

  pub talking_tests : (phase f : ℕ) → 1 ≤ s.talker.role.phase → phase ≤ 3 → f < 1024 → Tests (with_talker s (talking s.talker phase f)) a b
  talking_tests phase f h p k = with_talker_lem (talking s.talker phase f) (talker-laws.talking_fit s.talker talker_fits phase f h p k)

  pub obeyed_tests : (o : Order) → Tests (obeyed s o) a b
  unfolding obeyed
  obeyed_tests o =
      record {
        sizes = t.sizes;
        regs = t.regs;
        talker = talker-laws.fit_test_lem _ (talker-laws.obeyed_fit s.talker talker_fits o);
        rx_ring = t.rx_ring;
        tx_ring = t.tx_ring;
      }

  pub cleared_tests : Tests (cleared s) a b
  unfolding cleared
  cleared_tests =
      let r : Obeyed s.margin a b = sizes_hold s.margin a b t.sizes in
      record {
        sizes = t.sizes;
        regs = t.regs;
        talker = t.talker;
        rx_ring = empty_test a s.rx.cap (fit_cap a s.rx t.rx_ring) (omega (arith, r.rx_least)) r.rx_most;
        tx_ring = empty_test b s.tx.cap (fit_cap b s.tx t.tx_ring) (omega (arith, r.tx_least)) r.tx_most;
      }

  pub assigned_tests : (d : ℕ) → Tests (with_talker s (assigned_talker s.talker d)) a b
  assigned_tests d = with_talker_lem (assigned_talker s.talker d) (talker-laws.assigned_fit s.talker talker_fits d)

  pub finishing_tests : Tests (with_talker s (finishing_talker s.talker)) a b
  finishing_tests = with_talker_lem (finishing_talker s.talker) (talker-laws.finishing_fit s.talker talker_fits)
