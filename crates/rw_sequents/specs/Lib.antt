pub mod Counting
pub mod Refuted
pub mod Rules
pub mod After
pub mod Cited
pub mod Table
