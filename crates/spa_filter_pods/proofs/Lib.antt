pub mod Fronts
pub mod Puts
