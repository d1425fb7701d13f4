pub mod Keeping
pub mod Depth
pub mod Made
pub mod ListItems
pub mod Advance
pub mod Texts
pub mod StepTexts
