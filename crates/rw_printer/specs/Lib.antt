pub mod Trees
pub mod Layout
pub mod Lines
pub mod Readable
pub mod ReadsBack
