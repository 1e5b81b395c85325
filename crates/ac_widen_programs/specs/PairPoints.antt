-- Pairs of positions at points, and the orders that are chosen at them.
use Rattle.std.specs.Prelude.{◌≡◌, List, ℤ, map}
use Rattle.ac_syntax.specs.declared.tree.Order.{Order}
use Rattle.ac_syntax.specs.declared.tree.Pair.{Pair}
use Rattle.ac_syntax.specs.declared.tree.Position.{Position}
use Rattle.ac_syntax.specs.declared.tree.Site.{Site}
use Rattle.ac_graph.specs.GraphMeaning.{IsCompared, LeftPlaced, RightPlaced}

-- both positions stand at their coordinates, at a valuation of the context
pub record AreSeen (pair : Pair) (params : List ℤ) (left : Position) (left_at : List ℤ) (right : Position) (right_at : List ℤ) : Type 0 where
  pub compared : IsCompared pair params
  pub a : LeftPlaced pair params
  pub b : RightPlaced pair params
  pub left_is : a.position ≡ left
  pub left_at_is : a.at ≡ left_at
  pub right_is : b.position ≡ right
  pub right_at_is : b.at ≡ right_at

-- the orders that a partial order gives, at the pairs of their sites
abbrev pub choice_of : Site × Order → (Position × Position) × Order
choice_of c = ((c.0.left, c.0.right), c.1)

abbrev pub choices_of : List (Site × Order) → List ((Position × Position) × Order)
choices_of partial = map choice_of partial
