-- What a world that fits gives of its fields. Assumes nothing.
use Prim.Native.Nat.{◌<◌}
use mathlib.Core.Path.{◌≡◌}
use mathlib.Core.Bool.{true, false, ◌&&◌}
use lib.Dec.{leb, ltb}
use lib.ListN.{length}
use borrow.Author.Tests.{ltb-true, lt-leb}
use native.Mathlib.Omega.{arith}
use Rattle.branches.proofs.Branches.{and_left, and_right}
use Rattle.role.specs.Role.{is_active}
use Rattle.role.specs.RoleFit as role-fit
use Rattle.role.proofs.FitLaws as role-laws
use Rattle.talker.specs.TalkerFit as talker-fit
use Rattle.talker.proofs.FitLaws as talker-laws
use Rattle.polls.specs.Polls as polls
use Rattle.bus.specs.Bus as bus
use Rattle.mailstate.specs.declared.State.{State}
use Rattle.mailstate.specs.Sizes.{ways_recorded, loop_in_range, fits}
use Rattle.mailbox.specs.Calls.{World}
use Rattle.maillaws.specs.StateFits.{Fits}

module _ (w : World) (F : Fits w) where
  abbrev s : State
  s = w.state

  loop_range : loop_in_range w.state ≡ true
  unfolding fits
  loop_range =
      and_right (ways_recorded w.state (length w.tobus) (length w.toloop)) (loop_in_range w.state)
      (and_left (ways_recorded w.state (length w.tobus) (length w.toloop) && loop_in_range w.state) (bus.fit_test w.state.bus) F)

  bus_range : bus.fit_test w.state.bus ≡ true
  unfolding fits
  bus_range = and_right (ways_recorded w.state (length w.tobus) (length w.toloop) && loop_in_range w.state) (bus.fit_test w.state.bus) F

  pub talker_fits : talker-fit.Fit w.state.talker
  talker_fits =
      talker-laws.fit_true w.state.talker
      (and_left (talker-fit.fit_test w.state.talker) (leb w.state.source 10)
      (and_left (talker-fit.fit_test w.state.talker && leb w.state.source 10) (ltb w.state.hold.frame 1024)
      (and_left ((talker-fit.fit_test w.state.talker && leb w.state.source 10) && ltb w.state.hold.frame 1024) (polls.fit_test w.state.response) loop_range)))

  pub held_frame : w.state.hold.frame < 1024
  held_frame =
      ltb-true w.state.hold.frame 1024
      (and_right (talker-fit.fit_test w.state.talker && leb w.state.source 10) (ltb w.state.hold.frame 1024)
      (and_left ((talker-fit.fit_test w.state.talker && leb w.state.source 10) && ltb w.state.hold.frame 1024) (polls.fit_test w.state.response) loop_range))

  -- a listener on the loop has no frame under way
  pub listener_idle : w.state.talker.role.listener ≡ true → is_active w.state.talker.role ≡ false
  listener_idle l = lt-leb 2 w.state.talker.role.phase (omega (arith, talker_fits.role.apart l))

  pub bus_role : role-fit.Fit w.state.bus.role
  unfolding bus.fit_test
  bus_role =
      role-laws.fit_true w.state.bus.role
      (and_left (role-fit.fit_test w.state.bus.role) (leb w.state.bus.role.address 30)
      (and_left (role-fit.fit_test w.state.bus.role && leb w.state.bus.role.address 30) (leb w.state.bus.role.phase 1)
      (and_left ((role-fit.fit_test w.state.bus.role && leb w.state.bus.role.address 30) && leb w.state.bus.role.phase 1) (ltb w.state.bus.line 8) bus_range)))
