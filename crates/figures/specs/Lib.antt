pub mod Letters
pub mod Figures
pub mod Pieces
pub mod Block
pub mod Bench
pub mod Reference
