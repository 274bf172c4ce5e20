-- `Closing` serves the proofs of the C functions and `Words` says what a number tells. `Laws` and `Runs` are the laws of the C calls on the block of
-- a state, `Opened`, `Answers`, `Seen`, `Refusals` and `Fitting` those on any block.
pub mod Closing
pub mod Words
pub mod Laws
pub mod Opened
pub mod Runs
pub mod Answers
pub mod Seen
pub mod Refusals
pub mod Fitting
pub mod Stored
