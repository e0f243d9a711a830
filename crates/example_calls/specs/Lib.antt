pub mod Meeting
pub mod Video
