pub mod Fractions
pub mod Point
pub mod Finding
