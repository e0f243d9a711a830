pub mod Keeping
mod Running
mod Fixating
mod Levels
