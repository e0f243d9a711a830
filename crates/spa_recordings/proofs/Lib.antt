mod Ended
pub mod Going
pub mod Holding
mod Likely
mod Passed
pub mod Streamed
mod Unreading
