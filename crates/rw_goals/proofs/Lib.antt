pub mod Weights
pub mod Sound
pub mod Parted
pub mod Closes
pub mod Sorted
pub mod Places
