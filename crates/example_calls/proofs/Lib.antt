mod Fronts
pub mod Reading
