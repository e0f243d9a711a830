pub mod Refusals
pub mod Steps
pub mod SinkRefusals
pub mod Frames
pub mod Pieces
pub mod Parts
