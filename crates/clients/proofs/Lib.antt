pub mod FaultLaws
pub mod Numbers
pub mod HeaderLaws
pub mod RoundTrips
pub mod Rounding
pub mod Found
pub mod WorkLaws
