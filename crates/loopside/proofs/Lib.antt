-- `Within` keeps the transmit store within its places; `Parts` is what a frame adds and the address offered next; `Taken` a frame taken by its kind.
pub mod Within
pub mod Parts
pub mod Taken
