pub mod FitLaws
pub mod OrderLaws
pub mod CommandLaws
pub mod Clears
pub mod ReadyLaws
pub mod ByNumbers
