pub mod Leaves
pub mod Digits
pub mod Completeness
pub mod Soundness
pub mod ViewLaws
pub mod Nesting
pub mod Trailing
mod Paths
pub mod Strictly
