pub mod Quantified
pub mod Heads
pub mod Sizes
pub mod Refusals
pub mod Laws
