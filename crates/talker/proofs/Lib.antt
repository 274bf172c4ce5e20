-- `FitLaws` says what keeps a talker fitting.
pub mod FitLaws
