pub mod Used
pub mod Accepting
pub mod Mirror
