pub mod Bytes
pub mod Digits
pub mod Shorter
pub mod Aligned
pub mod Classes
pub mod Plain
