pub mod Digits
pub mod Overlay
pub mod Rows
pub mod Room
pub mod Progress
pub mod Length
pub mod Values
