mod Closing
mod WholeLines
mod FirstLine
mod Saying
mod Dumped
mod Stepping
mod Values
pub mod PrintedParams
mod PrintedPods
pub mod Extents
mod OpenStructs
pub mod ReadTexts
mod ReadHexadecimal
pub mod Changing
pub mod Differing
mod Items
mod Heads
mod Names
