pub mod Steps
pub mod Levels
pub mod Reciprocal
pub mod Parts
pub mod Claims
