pub mod Declining
