-- `Fits` says what fitting gives, `Parts` that it is the fitting of the parts.
pub mod Fits
pub mod Parts
