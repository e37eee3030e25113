pub mod Decide
pub mod Front
pub mod Lines
pub mod Pictures
