-- `Packed` is the layout of a mailbox's block, `States` says which blocks are states.
pub mod Packed
pub mod States
