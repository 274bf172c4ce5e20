-- Sizes and refusals, fitting: what create and the other C calls leave fits the same stores
use Rattle.boundary.specs.CFitting as boundary
use Rattle.raftershim.specs.Bridge.{bridges}

-- every C call keeps a block that fits, reachable or not
abbrev pub BlockKeepsFit : Type 0
BlockKeepsFit = boundary.BlockKeepsFit bridges

-- a create that answers that it is done leaves a block that fits, whatever stood there
abbrev pub CreateFits : Type 0
CreateFits = boundary.CreateFits bridges

-- no C call makes a buffer longer or shorter
abbrev pub LengthsStay : Type 0
LengthsStay = boundary.LengthsStay bridges
