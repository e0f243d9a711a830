pub mod Written
pub mod KeyOrder
pub mod Fronts
pub mod Answers
pub mod Meeting
