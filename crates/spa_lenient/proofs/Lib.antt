pub mod Causes
pub mod Fronts
pub mod InPlace
pub mod Lists
pub mod Structs
