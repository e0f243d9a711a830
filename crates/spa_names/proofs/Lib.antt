pub mod Coming
pub mod Facts
pub mod Found
pub mod Searching
pub mod Sound
