pub mod Ring
pub mod Promises
pub mod Bytes
