-- A C call refuses exactly when a check of the table is given, and by its number alone. Assumes nothing.
use Rattle.boundary.proofs.Refusals as refusals
use Rattle.raftershim.specs.Bridge.{bridges}
use Rattle.raftershim.specs.CLaws.{RefusalAlone}
use Rattle.raftershim.specs.CRefusals.{RefusedExactlyInC}
use Rattle.raftershim.proofs.Forming.{formed}
use Rattle.raftershim.proofs.Keeping.{kept}

pub refused_exactly_in_c : RefusedExactlyInC
refused_exactly_in_c = refusals.refused_exactly_in_c bridges formed kept

pub refusal_alone : RefusalAlone
refusal_alone = refusals.refusal_alone bridges formed kept
