pub mod Forms
pub mod Reading
pub mod Progress
pub mod Phrases
pub mod Certificates
