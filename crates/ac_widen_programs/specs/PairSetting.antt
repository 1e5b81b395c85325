-- The pairs of two programs as the method of widening sees them. A point at positions is a valuation of the
-- context, with the coordinates of both positions behind it.
use Rattle.std.specs.Prelude.{ℕ, ◌+◌, ◌≡◌, ◌++◌, List, ℤ, length, Bool, false, ◌&&◌, cond, Option, Some, None, slice_get}
use Rattle.ac_forms.specs.Affine.{Affine}
use Rattle.ac_forms.specs.declared.row.Row.{Row}
use Rattle.ac_syntax.specs.declared.tree.Order.{Order}
use Rattle.ac_syntax.specs.declared.tree.Order.TheVariants.{Keep}
use Rattle.ac_syntax.specs.declared.tree.Pair.{Pair}
use Rattle.ac_syntax.specs.declared.tree.Position.{Position}
use Rattle.ac_syntax.specs.declared.tree.Position.TheVariants.{Output, Node, InitialOutput, InitialNode}
use Rattle.ac_poly.specs.Model.{model_of}
use Rattle.ac_poly.specs.declared.types.Model.{Model}
use Rattle.ac_poly.specs.declared.types.StmtModel.{StmtModel}
use Rattle.ac_claims_paths.specs.InstanceCoordinates.{width}
use Rattle.ac_claims_paths.specs.PathSteps.{Pairing, same_symbol}
use Rattle.ac_forms.specs.ListMembers.{IsAmong}
use Rattle.ac_claims_paths.specs.Pairs.{StepsTo, IsMismatch}
use Rattle.ac_claims_paths.specs.ModelPositions.{CallAt, call_at}
use Rattle.ac_graph.specs.PairMoves.{pairing_of}
use Rattle.ac_graph.specs.GraphMeaning.{IsCompared, comparison, LeftPlaced, RightPlaced}
use Rattle.ac_widen.specs.Setting.{Setting}

-- ---- points

-- how many coordinates a position has: the subscripts of an element, or the counters of an instance
abbrev pub extent_count : Option (List Affine) → ℕ
extent_count None = 0
extent_count (Some extents) = length extents

abbrev pub counter_count : Option StmtModel → ℕ
counter_count None = 0
counter_count (Some stmt) = width stmt

abbrev pub coordinate_count : Model → Position → ℕ
coordinate_count m (Output o) = extent_count (slice_get m.extents o)
coordinate_count m (Node s k) = counter_count (slice_get m.stmts s)
coordinate_count m (InitialOutput o) = extent_count (slice_get m.extents o)
coordinate_count m (InitialNode s k) = counter_count (slice_get m.stmts s)

abbrev pub point_width : Pair → Position × Position → ℕ
point_width pair positions =
    length pair.left.params + (coordinate_count (model_of pair.left pair.context) positions.0 + coordinate_count (model_of pair.right pair.context) positions.1)

-- both positions are placed, and the point is the valuation with their coordinates
pub record IsPlaced (pair : Pair) (positions : Position × Position) (p params : List ℤ) (a : LeftPlaced pair params) (b : RightPlaced pair params) : Type 0 where
  pub left_is : a.position ≡ positions.0
  pub right_is : b.position ≡ positions.1
  pub point_is : p ≡ params ++ (a.at ++ b.at)

-- the point stands for both positions, at a valuation of the context
pub record PairAt (pair : Pair) (positions : Position × Position) (p : List ℤ) : Type 0 where
  pub params : List ℤ
  pub compared : IsCompared pair params
  pub a : LeftPlaced pair params
  pub b : RightPlaced pair params
  pub placed : IsPlaced pair positions p params a b

-- one of the outputs against itself, at one element
pub record IsOutputPair (pair : Pair) (outputs : List ℕ) (positions : Position × Position) (p : List ℤ) : Type 0 where
  pub there : PairAt pair positions p
  pub output : ℕ
  pub among : IsAmong output outputs
  pub left_is : there.a.position ≡ Output output
  pub right_is : there.b.position ≡ Output output
  pub one_element : there.a.at ≡ there.b.at

pub record IsMismatchPair (pair : Pair) (positions : Position × Position) (p : List ℤ) : Type 0 where
  pub there : PairAt pair positions p
  pub mismatch : IsMismatch (comparison pair there.params there.compared) there.a there.b

-- ---- sites and steps

-- two calls of one symbol whose arguments may be swapped
abbrev pub may_swap : Pairing → Option CallAt → Option CallAt → Bool
may_swap g None d = false
may_swap g (Some c) None = false
may_swap g (Some c) (Some d) = same_symbol c.symbol d.symbol && g.swaps c.symbol

abbrev pub is_site_pair : Pair → Position × Position → Bool
is_site_pair pair positions = may_swap (pairing_of pair) (call_at (model_of pair.left pair.context) positions.0) (call_at (model_of pair.right pair.context) positions.1)

-- the order of the arguments at a site; elsewhere they keep theirs
abbrev pub order_at : Pair → Position × Position → Order → Order
order_at pair positions order = cond (is_site_pair pair positions) order Keep

-- the pair steps to the other one, at one valuation
pub record IsStepPair (pair : Pair) (order : Order) (positions : Position × Position) (p : List ℤ) (next : Position × Position) (q : List ℤ) : Type 0 where
  pub params : List ℤ
  pub compared : IsCompared pair params
  pub a : LeftPlaced pair params
  pub b : RightPlaced pair params
  pub a' : LeftPlaced pair params
  pub b' : RightPlaced pair params
  pub from : IsPlaced pair positions p params a b
  pub to : IsPlaced pair next q params a' b'
  pub steps : StepsTo (comparison pair params compared) (order_at pair positions order) a b a' b'

-- ---- the setting

abbrev pub setting : Pair → List ℕ → (Position × Position → Bool) → (Position × Position → List Row) → Setting (Position × Position)
setting pair outputs recurrent template = record {
  Output = IsOutputPair pair outputs;
  Step = IsStepPair pair;
  Mismatch = IsMismatchPair pair;
  Instance = PairAt pair;
  recurrent = recurrent;
  is_site = is_site_pair pair;
  template = template;
  width = point_width pair;
}
