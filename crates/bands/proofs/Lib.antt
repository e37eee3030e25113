pub mod Range
pub mod Bands
