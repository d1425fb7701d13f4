pub mod Tokens
pub mod Seen
pub mod Classes
pub mod Expressions
