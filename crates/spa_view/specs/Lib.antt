pub mod Tests
pub mod View
pub mod Found
pub mod Elements
pub mod Settled
