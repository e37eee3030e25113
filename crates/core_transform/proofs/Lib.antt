pub mod Back
pub mod Stages
