pub mod KeyLists
pub mod KeySets
pub mod Lookups
pub mod Holding
mod Places
