pub mod Answers
pub mod ResultCode
