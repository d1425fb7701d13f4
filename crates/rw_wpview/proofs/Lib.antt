pub mod Rows
pub mod Weights
pub mod Large
pub mod Owing
pub mod Judging
