-- `Mailbox` is a mailbox as a product with C functions and what each of them promises, and `CLaws` is what holds of all of them.
pub mod Mailbox
pub mod CLaws
