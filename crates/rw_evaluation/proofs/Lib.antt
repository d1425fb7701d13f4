pub mod Backwards
pub mod Evaluations
pub mod Storing
