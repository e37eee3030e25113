pub mod Marks
pub mod Small
