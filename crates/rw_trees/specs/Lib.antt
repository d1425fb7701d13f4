pub mod Table
pub mod Trees
pub mod Edits
pub mod Nodes
pub mod Parts
pub mod Around
