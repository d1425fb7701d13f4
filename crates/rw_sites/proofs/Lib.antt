pub mod Sites
pub mod Weighing
