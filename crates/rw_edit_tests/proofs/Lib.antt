pub mod InOrder
pub mod Free
pub mod Roots
