-- What the authors of visitors cite: a read by a visitor that states exactly what it declines is refused exactly.
pub use Rattle.spa_typed_read.proofs.Visits
