pub mod Filled
pub mod Stages
