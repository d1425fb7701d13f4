pub mod Axioms
