pub mod Paths
pub mod Refusals
pub mod Several
