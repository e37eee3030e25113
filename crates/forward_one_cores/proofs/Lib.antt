pub mod Stores
pub mod Whole
