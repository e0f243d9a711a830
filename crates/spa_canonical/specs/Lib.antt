pub mod Canonical
pub mod Depth
pub mod Rewriting
pub mod Look
pub mod Emit
