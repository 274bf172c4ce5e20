-- Where what is put into a store stands. `GoingRound` has the ring of a store by any way of going round, and the law that a store is as the
-- ring by the remainder; `WrongGoingRound` has ways and stores that are wrong. `OneStore` has the places of a store over one call, and
-- `Filling` those of a machine's store, of every call and over a run.
pub mod GoingRound
pub mod WrongGoingRound
pub mod OneStore
pub mod Filling
