pub mod Polynomials
pub mod Expanded
pub mod Given
pub mod Lines
pub mod Values
pub mod Laws
