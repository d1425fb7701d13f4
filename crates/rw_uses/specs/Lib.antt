pub mod Rounds
pub mod Uses
