pub mod Loops
pub mod Before
pub mod Conditions
pub mod Misfits
pub mod Arms
pub mod Kept
