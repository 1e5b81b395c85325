-- When a number is too large at a recurrence pair.
use Rattle.std.specs.Prelude.{◌≡◌, ℤ, List, [], ◌∷◌, ◌++◌, length}
use Rattle.ac_syntax.specs.declared.tree.Order.{Order}
use Rattle.ac_syntax.specs.declared.tree.Position.{Position}
use Rattle.ac_forms.specs.Affine.{CanEvaluate}
use Rattle.ac_forms.specs.Rows.{form_of}
use Rattle.ac_hull.specs.ColumnDifferences.{GapsFit}
use Rattle.ac_hull.specs.EliminationRange.{CanAdd, CanCombine}
use Rattle.ac_hull.specs.Templates.{template_rows}
use Rattle.ac_widen.specs.Combinations.{Each}
use Rattle.ac_widen.specs.Obligations.{Obligations}
use Rattle.ac_widen.specs.Setting.{Setting}

-- no number leaves `i128` as a point is taken beside members: where it is added to their hull, or combined from them; where a template row
-- with these thresholds and moduli is evaluated at it; and in the differences of two columns, at each of them
pub record CanTake (thresholds moduli : List ℤ) (members : List (List ℤ)) (p : List ℤ) : Type 0 where
  pub adds : CanAdd (length p) members p
  pub combines : CanCombine members p
  pub tests : Each (λ r. CanEvaluate (form_of r) p) (template_rows (length p) thresholds moduli)
  pub gaps : Each GapsFit (members ++ p ∷ [])

-- the points are obligations at the pair of positions, and a number does as the last of them is taken beside the others
pub record AreTooLarge (s : Setting (Position × Position)) (order : Position × Position → Order) (thresholds moduli : List ℤ) (positions : Position × Position) (points : List (List ℤ)) : Type 0 where
  pub members : List (List ℤ)
  pub point : List ℤ
  pub points_are : points ≡ members ++ point ∷ []
  pub owed : Obligations s order positions points
  pub large : ¬ (CanTake thresholds moduli members point)
