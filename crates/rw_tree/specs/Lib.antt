pub mod Users
pub mod Used
pub mod Accepting
pub mod Mirror
