pub mod Alone
pub mod Numbers
pub mod Strips
