pub mod Same
pub mod Sound
pub mod Bounded
pub mod Guards
pub mod Sizes
pub mod Tops
