-- Rows of which some follow from equalities.
use Rattle.std.specs.Prelude.{ℤ, List}
use Rattle.ac_forms.specs.Affine.{Affine}
use Rattle.ac_forms.specs.Rows.{Meets}
use Rattle.ac_forms.specs.declared.row.Row.{Row}
use Rattle.ac_forms.specs.ListMembers.{IsAmong}
use Rattle.ac_hull.specs.Hulls.{Vanish}

-- some of the rows, from which all of them follow where the equalities hold
pub record AreEnoughOn (equalities : List Affine) (rows kept : List Row) : Type 0 where
  pub among : (r : Row) → IsAmong r kept → IsAmong r rows
  pub follow : (q : List ℤ) → Vanish equalities q → Meets kept q → Meets rows q
