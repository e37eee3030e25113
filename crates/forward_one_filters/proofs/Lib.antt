pub mod Undoing
pub mod Edges
pub mod Apart
