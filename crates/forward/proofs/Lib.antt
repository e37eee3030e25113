pub mod Whole
pub mod Judged
