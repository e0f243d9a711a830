pub mod Contents
pub mod Keeping
pub mod NumberLemmas
pub mod Offering
pub mod SharedMasks
pub mod Variants
pub mod Meetings
