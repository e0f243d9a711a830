pub mod Faults
pub mod Choices
pub mod Reading
