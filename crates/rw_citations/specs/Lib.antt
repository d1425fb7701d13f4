pub mod Conj
pub mod Cited
pub mod Goal
pub mod WellMade
