-- That the parts of a state fit is that the state fits, on plain values. Assumes nothing.
use Prim.Native.Nat.{ℕ}
use mathlib.Core.Path.{◌≡◌}
use mathlib.Core.Bool.{Bool, ◌&&◌, and_assoc, and-true}
use Rattle.registers.specs.RegistersFit.{registers_fit}
use Rattle.talker.specs.TalkerFit as talker-fit
use Rattle.store.specs.Ring as store-ring
use Rattle.state.specs.declared.State.{State}
use Rattle.state.specs.Sizes.{sizes_obeyed, fits}

pub fits_met : (s : State) (a b : ℕ) (x y z g r : Bool) → x ≡ store-ring.fit_test a s.rx → y ≡ store-ring.fit_test b s.tx →
    z ≡ sizes_obeyed s.margin a b → g ≡ registers_fit s.regs → r ≡ talker-fit.fit_test s.talker → ((((x && y) && z) && g) && r) ≡ fits s a b
unfolding fits registers_fit talker-fit.fit_test
fits_met s a b x y z g r ex ey ez eg er = rw (ex, ey, ez, eg, er) (simp (and_assoc, and-true))
