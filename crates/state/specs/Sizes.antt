-- Sizes and refusals: the sizes, the start, and when a state fits.
use Rattle.std.specs.Prelude.{ℕ, ◌+◌, ◌*◌, ◌≤◌, List, [], ◌∷◌, Bool, true, false, ◌&&◌, not, leb}
use Rattle.registers.specs.Table.{start_registers}
use Rattle.registers.specs.RegistersFit.{values, all_in_range}
use Rattle.registers.specs.Writing.{go_is_stop}
use Rattle.role.specs.RoleFit as role-fit
use Rattle.role.specs.Remote.{start_remote}
use Rattle.talker.specs.Talker.{start_talker}
use Rattle.talker.specs.TalkerFit as talker-fit
use Rattle.store.specs.Ring as store-ring
use Rattle.state.specs.declared.State.{State}
use Rattle.state.specs.State.{no_events}

-- every test of a list holds
abbrev pub all_hold : List Bool → Bool
all_hold [] = true
all_hold (t ∷ ts) = t && all_hold ts

-- ---- Sizes and refusals, first: the sizes

-- the margin
abbrev pub margin_obeyed : ℕ → Bool
margin_obeyed m = leb 1 m && leb m 1024

-- the receive store, which has room to resume with two bytes undecided
abbrev pub receive_obeyed : ℕ → ℕ → Bool
receive_obeyed m rx = leb (2 * m + 2) rx && leb rx 32768

-- the transmit store
abbrev pub transmit_obeyed : ℕ → Bool
transmit_obeyed tx = leb 3 tx && leb tx 32768

unfoldable pub sizes_obeyed : ℕ → ℕ → ℕ → Bool
sizes_obeyed m rx tx = all_hold (margin_obeyed m ∷ receive_obeyed m rx ∷ transmit_obeyed tx ∷ [])

-- ---- the start

-- the state after create: start values, empty stores, no frame under way, go the last of go and stop that we sent, counts 0
unfoldable pub start_state : ℕ → ℕ → ℕ → State
start_state m rx tx =
    record {
      margin = m;
      regs = start_registers;
      talker = start_talker;
      remote = start_remote;
      rx = store-ring.empty_ring rx;
      tx = store-ring.empty_ring tx;
      line = record { holding = false; forbidden = false; stopped = false };
      notes = record { seen = no_events; again = no_events; request = false };
      counts = record { stored = 0; lost = 0; sent = 0 };
    }

-- ---- Sizes and refusals, a state fits: a test for each clause; every value of the fields that none of them names is in range

-- the length that a ring records is that of its store, and the ring is in range
abbrev pub receive_recorded : State → ℕ → Bool
receive_recorded s rx = store-ring.fit_test rx s.rx

abbrev pub transmit_recorded : State → ℕ → Bool
transmit_recorded s tx = store-ring.fit_test tx s.tx

-- every field in its range, by part: the registers, the role, and the frame under way, which is a data frame
abbrev pub registers_in_range : State → Bool
registers_in_range s = all_in_range (values s.regs)

abbrev pub role_in_range : State → Bool
role_in_range s = role-fit.in_range s.talker.role

abbrev pub frame_in_range : State → Bool
frame_in_range s = talker-fit.frame_in_range s.talker

-- go and stop differ
abbrev pub go_and_stop_differ : State → Bool
go_and_stop_differ s = not (go_is_stop s.regs)

-- not talker and listener at once
abbrev pub not_both : State → Bool
not_both s = role-fit.not_both s.talker.role

abbrev pub fit_tests : State → ℕ → ℕ → List Bool
fit_tests s rx tx =
    receive_recorded s rx
    ∷ transmit_recorded s tx
    ∷ sizes_obeyed s.margin rx tx
    ∷ registers_in_range s
    ∷ go_and_stop_differ s
    ∷ role_in_range s
    ∷ not_both s
    ∷ frame_in_range s
    ∷ []

unfoldable pub fits : State → ℕ → ℕ → Bool
fits s rx tx = all_hold (fit_tests s rx tx)

-- what fitting says of the receive side, and of the transmit side
pub record RxFits (s : State) (rx : List ℕ) : Type 0 where
  pub ring : store-ring.Fit rx s.rx
  pub margin : s.margin ≤ 1024

pub record TxFits (s : State) (tx : List ℕ) : Type 0 where
  pub ring : store-ring.Fit tx s.tx
