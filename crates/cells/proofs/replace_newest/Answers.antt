use Rattle.cells.proofs.Newest.{replaced_at}
use Rattle.cells.proofs.replace_newest.Goals as goal

pub returns : goal.returns
returns g c = replaced_at _ _ _ _ c.requires.fit c.requires.len_nonzero c.place_of.ensures.0
