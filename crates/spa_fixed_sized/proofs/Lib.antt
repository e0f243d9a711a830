pub mod Pods
pub mod Arrays
pub mod ChoiceReading
pub mod ElementWriting
pub mod ArrayWriting
pub mod ChoiceWriting
pub mod Chunks
