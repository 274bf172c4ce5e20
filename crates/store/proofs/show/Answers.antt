use Rattle.store.proofs.Laws.{shown_met}
use Rattle.store.proofs.show.Goals as goal

pub returns : goal.returns
returns g c = shown_met _ _ _ c.requires c.unbroken-p.ensures
