pub mod Both
pub mod Judged
