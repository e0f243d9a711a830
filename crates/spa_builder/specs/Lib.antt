pub mod State
pub mod Step
pub mod Fields
pub mod Innermost
pub mod Answers
pub mod Replay
pub mod Framed
pub mod Making
