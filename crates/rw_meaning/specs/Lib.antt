pub mod Calls
pub mod Filling
pub mod Given
pub mod Mention
