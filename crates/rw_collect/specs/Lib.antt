pub mod Code
pub mod Closed
