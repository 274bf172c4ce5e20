-- What a state that fits gives to the functions of the bridge. Assumes nothing.
use Prim.Native.Nat.{ℕ, zero, suc, ◌+◌, ◌*◌, ◌≤◌}
use mathlib.Core.Path.{◌≡◌, refl, sym, ◌∙◌}
use mathlib.Core.List.{List, [], ◌∷◌}
use mathlib.Core.Bool.{Bool, true, false, not}
use lib.Dec.{leb}
use lib.ListN.{length, get_or}
use borrow.Author.Tests.{leb-true, not-true, not-false}
use Rattle.branches.proofs.Branches.{and_left, and_right}
use Rattle.store.specs.Ring as store-ring
use Rattle.store.proofs.Laws.{fit_true}
use Rattle.talker.specs.TalkerFit as talker-fit
use Rattle.registers.specs.RegistersFit.{registers_fit}
use Rattle.state.specs.declared.State.{State}
use Rattle.state.specs.Sizes.{all_hold, margin_obeyed, receive_obeyed, transmit_obeyed, sizes_obeyed, fit_tests, fits, RxFits, TxFits}

-- a test of a list that holds whole
hold_at : (ts : List Bool) (n : ℕ) → all_hold ts ≡ true → get_or ts n true ≡ true
hold_at [] zero e = refl
hold_at [] (suc n) e = refl
hold_at (t ∷ ts) zero e = and_left t (all_hold ts) e
hold_at (t ∷ ts) (suc n) e = hold_at ts n (and_right t (all_hold ts) e)

-- what sizes that are obeyed come to
pub record Obeyed (m rx tx : ℕ) : Type 0 where
  pub some : 1 ≤ m
  pub most : m ≤ 1024
  pub rx_least : 2 * m + 2 ≤ rx
  pub rx_most : rx ≤ 32768
  pub tx_least : 3 ≤ tx
  pub tx_most : tx ≤ 32768

pub sizes_hold : (m rx tx : ℕ) → sizes_obeyed m rx tx ≡ true → Obeyed m rx tx
unfolding sizes_obeyed
sizes_hold m rx tx e =
    let ts : List Bool = margin_obeyed m ∷ receive_obeyed m rx ∷ transmit_obeyed tx ∷ [] in
    record {
      some = leb-true 1 m (and_left (leb 1 m) (leb m 1024) (hold_at ts 0 e));
      most = leb-true m 1024 (and_right (leb 1 m) (leb m 1024) (hold_at ts 0 e));
      rx_least = leb-true (2 * m + 2) rx (and_left (leb (2 * m + 2) rx) (leb rx 32768) (hold_at ts 1 e));
      rx_most = leb-true rx 32768 (and_right (leb (2 * m + 2) rx) (leb rx 32768) (hold_at ts 1 e));
      tx_least = leb-true 3 tx (and_left (leb 3 tx) (leb tx 32768) (hold_at ts 2 e));
      tx_most = leb-true tx 32768 (and_right (leb 3 tx) (leb tx 32768) (hold_at ts 2 e));
    }

-- each test of a state that fits
pub record Tests (s : State) (rx tx : ℕ) : Type 0 where
  pub sizes : sizes_obeyed s.margin rx tx ≡ true
  pub regs : registers_fit s.regs ≡ true
  pub talker : talker-fit.fit_test s.talker ≡ true
  pub rx_ring : store-ring.fit_test rx s.rx ≡ true
  pub tx_ring : store-ring.fit_test tx s.tx ≡ true

pub tests : (s : State) (rx tx : ℕ) → fits s rx tx ≡ true → Tests s rx tx
unfolding fits registers_fit talker-fit.fit_test
tests s rx tx e =
    let ts : List Bool = fit_tests s rx tx in
    record {
      sizes = hold_at ts 2 e;
      regs = rw (hold_at ts 3 e, hold_at ts 4 e);
      talker = rw (hold_at ts 5 e, hold_at ts 6 e, hold_at ts 7 e);
      rx_ring = hold_at ts 0 e;
      tx_ring = hold_at ts 1 e;
    }

module _ (s : State) (rx tx : List ℕ) (e : fits s (length rx) (length tx) ≡ true) where
  pub rx_fits : RxFits s rx
  rx_fits =
      let t : Tests s (length rx) (length tx) = tests s (length rx) (length tx) e in
      record { ring = fit_true rx s.rx t.rx_ring; margin = (sizes_hold s.margin (length rx) (length tx) t.sizes).most }

  pub tx_fits : TxFits s tx
  tx_fits =
      let t : Tests s (length rx) (length tx) = tests s (length rx) (length tx) e in
      record { ring = fit_true tx s.tx t.tx_ring }

-- what the test of fit told
pub is_misfit : {r t : Bool} → r ≡ t → not r ≡ true → t ≡ false
is_misfit {r} e h = sym e ∙ not-true r h

pub is_fit : {r t : Bool} → r ≡ t → not r ≡ false → t ≡ true
is_fit {r} e h = sym e ∙ not-false r h
