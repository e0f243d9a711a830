pub mod Admits
pub mod Meeting
pub mod Refusals
pub mod PropertyLists
pub mod ErrorTexts
pub mod Written
pub mod Offering
pub mod Fronts
pub use Rattle.spa_keyed_objects.specs.Keys
-- The types that clauses name, and what is named of each.
pub use Rattle.spa_keyed_objects.specs.declared.side.Side
pub use Rattle.spa_keyed_objects.specs.declared.side.Side.TheVariants as Sides
