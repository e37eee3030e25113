pub mod Tries
pub mod Sanity
