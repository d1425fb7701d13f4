pub mod Refusals
pub mod Entering
