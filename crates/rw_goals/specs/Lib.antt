pub mod Causes
pub mod Library
pub mod Weight
pub mod Premises
pub mod Connectives
pub mod Closing
pub mod Sorting
pub mod Cut
