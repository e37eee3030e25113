pub mod Pictures
pub mod Reach
pub mod Filters
pub mod Tells
pub mod Levels
pub mod Tries
pub mod Header
pub mod Tables
