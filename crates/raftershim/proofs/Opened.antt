-- A C call does on lent buffers what the call does on the world that they stand for, and so does a run. Assumes nothing.
use Rattle.boundary.proofs.Opened as opened
use Rattle.raftershim.specs.Bridge.{bridges}
use Rattle.raftershim.specs.CLaws.{CallMeans, RunsMean}
use Rattle.raftershim.proofs.Forming.{formed}
use Rattle.raftershim.proofs.Keeping.{kept}

pub call_means : CallMeans
call_means = opened.call_means bridges formed kept

pub runs_mean : RunsMean
runs_mean = opened.runs_mean bridges formed kept
