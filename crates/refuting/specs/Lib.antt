-- `Refuted` is what it says that a machine breaks a law, `WrittenOut` a run that is written out, call by call, and `SmallRings` a ring by its
-- numbers.
pub mod Refuted
pub mod WrittenOut
pub mod SmallRings
