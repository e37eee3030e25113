pub mod Unfiltered
pub mod Rows
pub mod Strip
