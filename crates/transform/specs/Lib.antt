pub mod Level
pub mod Apart
pub mod Grids
pub mod Transform
pub mod Windows
pub mod Claims
pub mod Wraps
