pub mod Right
pub mod Faults
pub mod Header
pub mod Work
