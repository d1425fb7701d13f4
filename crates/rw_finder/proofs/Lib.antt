pub mod Ends
pub mod Euclid
pub mod Passed
pub mod Order
pub mod Values
