pub mod Forecast
pub mod Parts
pub mod Claims
