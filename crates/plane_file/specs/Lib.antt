pub mod Words
pub mod Layout
pub mod Header
pub mod Numbers
pub mod Calls
pub mod Claims
