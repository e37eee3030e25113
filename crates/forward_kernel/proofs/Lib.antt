pub mod Level
pub mod Stores
