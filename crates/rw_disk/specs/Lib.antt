pub mod Events
pub mod DiskLog
pub mod MemoryDisk
pub mod DiskLaws
