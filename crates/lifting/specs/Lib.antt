pub mod Wrap
pub mod Program
pub mod Row
pub mod Valid
pub mod OperatorUses
pub mod Tests
pub mod Wraps
pub mod AnyUse
