pub mod Reciprocal
pub mod Signs
pub mod Rounding
pub mod Claims
pub mod Sanity
