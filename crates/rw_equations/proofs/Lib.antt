pub mod Rewrites
pub mod Equal
pub mod Sides
