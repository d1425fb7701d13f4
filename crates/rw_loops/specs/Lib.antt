pub mod Counts
pub mod Guards
pub mod Code
pub mod Limits
pub mod Laws
pub mod Skeletons
pub mod Sound
pub mod Turns
