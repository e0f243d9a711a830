pub mod Lengths
pub mod FrameLists
pub mod Sizes
pub mod Steps
pub mod Runs
pub mod Members
pub mod Placing
pub mod Shapes
pub mod Kept
pub mod Leaving
pub mod Valued
pub mod AtHand
pub mod Making
pub mod Bodies
mod Choices
