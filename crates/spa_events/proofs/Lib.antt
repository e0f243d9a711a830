pub mod Firsts
pub mod Open
pub mod Places
pub mod Steps
pub mod Around
pub mod Few
