pub mod States
pub mod Table
pub mod Refusals
pub mod Citing
pub mod Affected
pub mod Differing
pub mod Sound
