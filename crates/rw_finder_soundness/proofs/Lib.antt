pub mod Opposites
pub mod Expanded
pub mod Backed
pub mod Sound
pub mod Accepted
pub mod Found
