pub mod Cutting
pub mod Runs
pub mod Shown
pub mod Limits
