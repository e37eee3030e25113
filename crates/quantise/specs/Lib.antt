pub mod Quantise
