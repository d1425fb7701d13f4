pub mod Parts
pub mod Free
