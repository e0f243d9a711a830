mod Descending
mod Listing
mod Passing
mod Saying
mod Stepping
mod Unreading
