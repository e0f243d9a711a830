pub mod Asking
pub mod Members
pub mod Visiting
pub mod Exactly
pub mod ExactlyLaws
pub mod Lookup
