pub mod Before
pub mod Fitting
pub mod Judging
