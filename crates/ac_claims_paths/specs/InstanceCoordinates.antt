-- What names an instance of an assignment in a model, and when one instance stands before another.
pub use Rattle.ac_poly.specs.Coordinates.{width, coordinates, levels_before}
