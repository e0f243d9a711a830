pub mod CanonicalPods
pub mod Keys
pub mod PropertyLists
pub mod Sides
