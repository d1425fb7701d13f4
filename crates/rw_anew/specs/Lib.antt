pub mod Anew
pub mod Uses
pub mod Marks
pub mod Cost
