pub mod Firsts
pub mod Clauses
