pub mod Made
pub mod State
pub mod Tables
pub mod Meaning
pub mod Refine
pub mod Laws
pub mod CodeTest
pub mod Scoped
