pub mod Blocks
pub mod Cut
pub mod GoingOn
pub mod Passing
pub mod Plausible
pub mod Reading
pub mod Rewritings
pub mod Streaming
