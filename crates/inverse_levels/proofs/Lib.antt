pub mod Loops
pub mod Filled
pub mod Side
pub mod Stages
mod Columns
