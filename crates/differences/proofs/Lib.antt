pub mod Differences
pub mod Walk
pub mod Pieces
pub mod Sanity
