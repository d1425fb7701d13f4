pub mod Procs
pub mod Modules
