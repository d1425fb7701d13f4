pub mod Ended
pub mod Fitting
pub mod HasEnd
pub mod Outcomes
pub mod Runs
pub mod Theorems
pub mod Turning
pub mod Landing
