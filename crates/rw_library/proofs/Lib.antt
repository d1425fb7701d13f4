pub mod Places
pub mod Sorts
