pub mod Apart
pub mod InFormula
pub mod InPreorder
