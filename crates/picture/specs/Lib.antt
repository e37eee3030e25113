pub mod Refusals
pub mod Sizes
pub mod Modes
pub mod Table
pub mod Planes
pub mod Numbers
pub mod Answers
