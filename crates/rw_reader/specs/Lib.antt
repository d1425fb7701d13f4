pub mod Turns
pub mod Steps
pub mod Requests
pub mod Reading
