pub mod Listed
pub mod Heads
