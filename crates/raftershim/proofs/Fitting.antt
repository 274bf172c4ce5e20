-- What a C call leaves fits the same stores. Assumes nothing.
use Rattle.boundary.proofs.Fitting as fitting
use Rattle.raftershim.specs.Bridge.{bridges}
use Rattle.raftershim.specs.CFitting.{BlockKeepsFit, CreateFits, LengthsStay}
use Rattle.raftershim.proofs.Forming.{formed}
use Rattle.raftershim.proofs.Keeping.{kept}

pub block_keeps_fit : BlockKeepsFit
block_keeps_fit = fitting.block_keeps_fit bridges formed kept

pub create_fits : CreateFits
create_fits = fitting.create_fits bridges formed kept

pub lengths_stay : LengthsStay
lengths_stay = fitting.lengths_stay bridges formed kept
