pub mod Table
pub mod Edits
pub mod Nodes
pub mod Parts
