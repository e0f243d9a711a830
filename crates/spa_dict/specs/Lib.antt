pub mod Left
pub mod Pairs
pub mod Parsing
pub mod Reading
