-- When a role fits.
use Rattle.std.specs.Prelude.{◌≤◌, ◌≡◌, Bool, true, ◌&&◌, not, leb}
use Rattle.role.specs.declared.Role.{Role}
use Rattle.role.specs.Role.{unassigned, idle, active_status, is_talker}

-- Sizes and refusals, when a state fits: a listener is no talker
abbrev pub Apart : Role → Type 0
Apart r = r.listener ≡ true → r.phase ≡ idle

-- Sizes and refusals, when a state fits, as far as the role goes
pub record Fit (r : Role) : Type 0 where
  pub range : r.address ≤ unassigned
  pub phase : r.phase ≤ active_status
  pub apart : Apart r

-- the same, as tests: address and phase in their ranges, and not talker and listener at once
abbrev pub in_range : Role → Bool
in_range r = leb r.address unassigned && leb r.phase active_status

abbrev pub not_both : Role → Bool
not_both r = not (is_talker r && r.listener)

abbrev pub fit_test : Role → Bool
fit_test r = in_range r && not_both r
