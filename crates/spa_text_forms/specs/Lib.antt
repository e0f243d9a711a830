pub mod Dump
pub mod Order
pub mod Forms
