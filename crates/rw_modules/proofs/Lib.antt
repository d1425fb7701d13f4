pub mod Quantifying
pub mod Binders
pub mod AsLarge
pub mod Large
pub mod Joined
pub mod Room
