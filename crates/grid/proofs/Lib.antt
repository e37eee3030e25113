pub mod Squares
pub mod Rows
