pub mod CallParts
pub mod Testing
