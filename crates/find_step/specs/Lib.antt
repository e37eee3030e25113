pub mod FindStep
pub mod Claims
