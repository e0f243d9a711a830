pub mod Ratios
pub mod Firsts
pub mod Signed
pub mod Narrowing
pub mod Order
pub mod Joins
pub mod Masks
pub mod StepKinds
