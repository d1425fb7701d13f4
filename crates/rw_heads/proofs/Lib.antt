pub mod Listed
pub mod Changed
pub mod Named
