pub mod Outcome
pub mod State
pub mod Sizes
pub mod Counts
pub mod Conditions
