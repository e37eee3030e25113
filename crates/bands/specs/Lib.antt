pub mod Bands
pub mod Numbers
