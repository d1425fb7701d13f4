pub mod Derived
pub mod Weight
