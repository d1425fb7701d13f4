pub mod Beside
pub mod Coded
pub mod Frames
pub mod Rules
pub mod ScopedParts
pub mod Skipping
