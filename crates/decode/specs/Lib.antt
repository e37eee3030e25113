pub mod Program
pub mod Shown
