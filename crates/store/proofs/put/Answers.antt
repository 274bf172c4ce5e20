use mathlib.Core.Path.{ap}
use Rattle.std.specs.Prelude.{is_some}
use Rattle.store.proofs.Laws.{put_at, put_kept, not_some}
use Rattle.store.proofs.put.Goals as goal

pub returns-in-Some : goal.returns-in-Some
returns-in-Some g c = put_at _ _ _ _ _ c.requires c.offer-o.ensures (ap is_some c.in-Some.is) c.place_of.ensures.0

pub returns-in_default : goal.returns-in_default
returns-in_default g c = put_kept _ _ _ _ c.requires c.offer-o.ensures (not_some _ c.in_default.not-Some)
