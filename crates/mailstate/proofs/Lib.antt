-- `Fits` says what fitting gives.
pub mod Fits
