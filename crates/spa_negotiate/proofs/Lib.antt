pub mod Agreeing
pub mod Settlements
pub mod Refusing
pub mod Steps
pub mod Objects
mod MetValues
pub mod OfferViews
pub mod Putting
pub mod Leaves
pub mod Fronts
