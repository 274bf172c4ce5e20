-- `Apart` tells numbers, lists and answers apart, `StandsIn` says what a small store holds, and `ByTurns` what a law says of a run that is
-- written out.
pub mod Apart
pub mod StandsIn
pub mod ByTurns
