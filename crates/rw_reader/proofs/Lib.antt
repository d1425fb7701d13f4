pub mod Expressions
pub mod KeepingRules
pub mod KeepingSteps
pub mod Requests
pub mod Lines
pub mod Made
pub mod RuleItems
pub mod Choosing
