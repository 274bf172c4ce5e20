-- Our bridge obeys every law of a bridge.
pub mod Obeyed
