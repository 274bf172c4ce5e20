-- What writing the newest cell again promises. The other calls are the store's own; the crates that carry frames know nothing else of either.
pub use Rattle.cells.specs.Newest.{replaced_cells, Replaced}
