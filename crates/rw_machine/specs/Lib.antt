pub mod CodeFits
pub mod Counts
pub mod Kept
pub mod Machine
pub mod Outcome
pub mod Runs
