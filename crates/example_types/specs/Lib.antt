pub mod Capture
pub mod Control
pub mod Gain
pub mod Media
pub mod MediaLaws
pub mod Pair
pub mod Profile
pub mod Stream
