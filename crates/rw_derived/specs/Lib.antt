pub mod Derived
pub mod Causes
pub mod Making
