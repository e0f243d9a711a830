pub mod Indented
pub mod Line
pub mod Printed
pub mod Written
pub mod Left
