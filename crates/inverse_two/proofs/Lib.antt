pub mod Kernel
pub mod Places
pub mod Cored
pub mod Windows
pub mod Reached
