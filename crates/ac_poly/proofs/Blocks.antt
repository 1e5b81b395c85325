-- The numbers of a point in a block of its columns.
pub use Rattle.ac_poly_quotients.proofs.Blocks.{numbers_behind, numbers_last}
