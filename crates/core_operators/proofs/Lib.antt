pub mod Ors
