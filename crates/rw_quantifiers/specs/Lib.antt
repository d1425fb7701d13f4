pub mod Quantified
