-- In the order of the table of section 4: what is sent, and what each message does.
pub mod Sends
pub mod Messages
