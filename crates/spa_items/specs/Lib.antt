pub mod Contents
pub mod Items
pub mod Places
pub mod Puts
