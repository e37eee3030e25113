pub mod Joined
pub mod Levels
