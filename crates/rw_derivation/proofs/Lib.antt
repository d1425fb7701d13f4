pub mod Fitting
pub mod Sites
pub mod Weighing
