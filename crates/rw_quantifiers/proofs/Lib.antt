pub mod Fresh
pub mod Quantifiers
pub mod Small
