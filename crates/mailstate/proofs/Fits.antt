-- What a state that fits gives to the functions of the mailbox. Assumes nothing.
use Prim.Native.Nat.{ℕ, ◌<◌, ◌≤◌}
use mathlib.Core.Path.{◌≡◌}
use mathlib.Core.List.{List}
use mathlib.Core.Bool.{true, ◌&&◌}
use lib.Dec.{leb, ltb}
use lib.ListN.{length}
use borrow.Author.Tests.{leb-true, ltb-true}
use Rattle.branches.proofs.Branches.{and_left, and_right}
use Rattle.store.specs.Ring.{Fit}
use Rattle.store.proofs.Laws.{fit_true}
use Rattle.role.specs.RoleFit as role-fit
use Rattle.talker.specs.TalkerFit as talker-fit
use Rattle.polls.specs.Polls as polls
use Rattle.bus.specs.Bus as bus
use Rattle.way.specs.Way as way
use Rattle.mailstate.specs.declared.State.{State}
use Rattle.mailstate.specs.Sizes.{address_obeyed, store_obeyed, sizes_obeyed, ways_recorded, loop_in_range, fits}

module _ (s : State) (tobus toloop : List ℕ) (e : fits s (length tobus) (length toloop) ≡ true) where
  -- the tests of the rings and of the loop side
  ways : ways_recorded s (length tobus) (length toloop) ≡ true
  unfolding fits
  ways = and_left (ways_recorded s (length tobus) (length toloop)) (loop_in_range s) (and_left (ways_recorded s (length tobus) (length toloop) && loop_in_range s) (bus.fit_test s.bus) e)

  ranged : loop_in_range s ≡ true
  unfolding fits
  ranged = and_right (ways_recorded s (length tobus) (length toloop)) (loop_in_range s) (and_left (ways_recorded s (length tobus) (length toloop) && loop_in_range s) (bus.fit_test s.bus) e)

  -- each ring fits its store
  pub tobus_fits : Fit tobus s.tobus.ring
  tobus_fits = fit_true tobus s.tobus.ring (and_left (way.fit_test (length tobus) s.tobus) (way.fit_test (length toloop) s.toloop) ways)

  pub toloop_fits : Fit toloop s.toloop.ring
  toloop_fits = fit_true toloop s.toloop.ring (and_right (way.fit_test (length tobus) s.tobus) (way.fit_test (length toloop) s.toloop) ways)

  -- polls of the loop and of the bus are answered on one of eight lines
  pub loop_line : s.response.line < 8
  loop_line =
      ltb-true s.response.line 8
      (and_right ((talker-fit.fit_test s.talker && leb s.source 10) && ltb s.hold.frame 1024) (polls.fit_test s.response) ranged)

  pub bus_line : s.bus.line < 8
  unfolding fits bus.fit_test
  bus_line =
      ltb-true s.bus.line 8
      (and_right ((role-fit.fit_test s.bus.role && leb s.bus.role.address 30) && leb s.bus.role.phase 1) (ltb s.bus.line 8)
      (and_right (ways_recorded s (length tobus) (length toloop) && loop_in_range s) (bus.fit_test s.bus) e))

-- a bus address that create takes
pub address_obeyed_lem : (a tobus toloop : ℕ) → sizes_obeyed a tobus toloop ≡ true → a ≤ 30
unfolding sizes_obeyed
address_obeyed_lem a tobus toloop e =
    leb-true a 30
    (and_left (address_obeyed a) (store_obeyed tobus) (and_left (address_obeyed a && store_obeyed tobus) (store_obeyed toloop) e))
