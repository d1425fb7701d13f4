pub mod Seen
pub mod Given
pub mod Derived
pub mod Weight
