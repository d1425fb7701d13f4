pub mod EnteringLemmas
pub mod Roots
