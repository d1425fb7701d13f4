pub mod Rewritten
pub mod Equality
pub mod Laws
