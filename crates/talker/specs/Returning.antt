-- What a data frame is that comes back to an active talker.
use Rattle.std.specs.Prelude.{ℕ, cond, eqb}
use Rattle.frame.specs.Frame.{same_apart}
use Rattle.role.specs.Role.{active_status}
use Rattle.talker.specs.declared.Talker.{Talker}
use Rattle.talker.specs.declared.Return.{Return}
use Rattle.talker.specs.declared.Return.TheVariants.{Damaged, StatusBack, Finished, Next}

-- Frames, returns: compared with the frame under way, the service bit aside; then by what was sent and whether more may follow
unfoldable pub return_of : Talker → ℕ → Return
return_of t f =
    cond (same_apart f t.under.frame)
    (cond (eqb t.role.phase active_status) StatusBack
    (cond t.under.finishing Finished Next))
    Damaged
