-- `Addresses` says that the address after one that was assigned fits in a byte.
pub mod Addresses
