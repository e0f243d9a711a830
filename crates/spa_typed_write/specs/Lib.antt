pub mod Success
pub mod Unfinished
pub mod Listed
pub mod Complete
pub mod Parts
