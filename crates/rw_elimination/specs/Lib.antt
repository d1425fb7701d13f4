pub mod Hypotheses
pub mod Rows
pub mod Elimination
pub mod Writing
pub mod Answer
