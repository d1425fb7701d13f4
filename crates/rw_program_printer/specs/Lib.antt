pub mod Layout
pub mod Steps
pub mod Readable
pub mod ReadsBack
pub mod StepsReadBack
