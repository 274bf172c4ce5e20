-- `Cells` is what the types give of a lent store of cells, `Newest` what writing the newest cell again does, and `Promises` what the crates that
-- carry frames use.
pub mod Cells
pub mod Newest
pub mod Promises
