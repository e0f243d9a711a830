pub mod Measured
pub mod Nesting
pub mod DeepValues
