pub mod Overlays
pub mod Firsts
pub mod Listed
pub mod Placed
pub mod Levels
pub mod Waiting
