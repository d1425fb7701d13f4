pub mod Faults
pub mod Preorder
pub mod Initial
pub mod Limits
