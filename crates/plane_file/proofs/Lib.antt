pub mod Parts
pub mod Signs
pub mod Checks
pub mod Calls
pub mod Written
pub mod RoundTrips
pub mod Sanity
