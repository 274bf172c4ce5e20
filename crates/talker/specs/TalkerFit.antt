-- When a talker fits.
use Rattle.std.specs.Prelude.{◌<◌, Bool, ◌&&◌, ltb}
use Rattle.role.specs.RoleFit as role-fit
use Rattle.talker.specs.declared.Talker.{Talker}

-- Sizes and refusals, when a state fits: the role fits, and the frame under way is a data frame
pub record Fit (t : Talker) : Type 0 where
  pub role : role-fit.Fit t.role
  pub frame : t.under.frame < 1024

-- the same, as tests
abbrev pub frame_in_range : Talker → Bool
frame_in_range t = ltb t.under.frame 1024

unfoldable pub fit_test : Talker → Bool
fit_test t = role-fit.fit_test t.role && frame_in_range t
