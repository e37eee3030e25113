pub mod Search
pub mod Claims
