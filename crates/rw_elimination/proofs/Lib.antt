pub mod Occurrences
pub mod Stops
pub mod Pairing
pub mod Narrow
