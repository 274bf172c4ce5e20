-- `Places` has the laws of going round, `Held` what each call does to what is held, `Laws` what callers use, `Several` the same for several bytes,
-- `Promises` what the crates that carry frames use.
pub mod Places
pub mod Held
pub mod Laws
pub mod Several
pub mod Promises
