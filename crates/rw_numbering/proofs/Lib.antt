pub mod Loops
pub mod Numbers
pub mod Places
pub mod Tallied
