pub mod Bench
pub mod Figures
pub mod Parts
pub mod Growth
pub mod WrapBench
