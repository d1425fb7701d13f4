pub mod Grammar
pub mod Endings
pub mod Texts
pub mod Parts
pub mod Keeping
pub mod Values
pub mod Listing
pub mod ListItems
