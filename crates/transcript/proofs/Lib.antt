-- `Printing` serves what is written, `Turns` the loops; `Asks` says that the asks of the run are enough for a state that fits, `UntilNone` that
-- those of a run do.
pub mod Printing
pub mod Turns
pub mod Asks
pub mod Start
pub mod UntilNone
pub mod RegistersFirst
