pub mod HoldingOff
pub mod Breaks
