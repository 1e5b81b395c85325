-- Refutations whose numbers the greatest ones that a walk meets bound.
use Rattle.std.specs.Prelude.{◌≤◌, List}
use Rattle.ac_forms.specs.declared.row.Row.{Row}
use Rattle.ac_omega.specs.Maxima.{Maxima}
use Rattle.ac_omega_certify.specs.Refutations.{AreRowsWithin, AreModuliWithin}
use Rattle.ac_omega_certify.specs.declared.refutation.Refutation.{Refutation, Row_of-Refutation, end_of-Refutation, more_of-Refutation}
use Rattle.ac_omega_certify.specs.declared.refutation.Refutation.TheVariants.{Absurd, Open'}

-- the maxima only grew
pub record HaveRisen (from to : Maxima) : Type 0 where
  pub factor : from.factor ≤ to.factor
  pub number : from.number ≤ to.number

-- the maxima bound the numbers of these rows
abbrev pub Bounds : Maxima → List Row → Type 0
Bounds s rows = AreRowsWithin s.factor s.number rows

-- they bound the rows of each conjunction of the refutation, and the factor bounds the moduli of its residues
unfoldable mutual
  pub IsWithin : Maxima → Refutation → Type 0
  IsWithin s (Absurd c) = Bounds s c.rows
  IsWithin s (Open' c hs n below) = Bounds s c.rows × AreModuliWithin s.factor hs × AreAllWithin s below

  pub AreAllWithin : Maxima → {m : _} → Row_of-Refutation m → Type 0
  AreAllWithin s end_of-Refutation = Unit {0}
  AreAllWithin s (more_of-Refutation r rest) = IsWithin s r × AreAllWithin s rest
