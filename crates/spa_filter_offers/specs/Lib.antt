pub mod Admits
pub mod Forms
pub mod Numbering
pub mod Offers
