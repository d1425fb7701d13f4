pub mod Counted
pub mod Marking
pub mod Marked
pub mod RoundLemmas
pub mod Costs
