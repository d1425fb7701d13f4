pub mod Grammar
pub mod Open
pub mod Found
pub mod Machine
pub mod Steps
pub mod Spelling
pub mod Stops
