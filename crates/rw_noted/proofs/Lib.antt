pub mod CodeParts
