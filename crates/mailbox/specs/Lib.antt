-- `BusSide` is what the bus does to a mailbox, and `Calls` all calls; what the loop does is in mailloop.
pub mod BusSide
pub mod Calls
