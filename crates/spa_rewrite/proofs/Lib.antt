pub mod Own
pub mod Appended
pub mod Appending
pub mod Lacking
pub mod ChangedPods
pub mod InPlaceLemmas
