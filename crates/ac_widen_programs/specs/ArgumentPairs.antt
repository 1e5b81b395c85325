-- Arguments of two calls that meet.
use Rattle.std.specs.Prelude.{ℕ, ◌≡◌, Some, Bool, slice_get}
use Rattle.ac_syntax.specs.declared.tree.Order.{Order}
use Rattle.ac_syntax.specs.declared.tree.Position.{Position}
use Rattle.ac_syntax.specs.declared.tree.Symbol.{Symbol}
use Rattle.ac_claims_paths.specs.Pairs.{ArgumentsMeet}
use Rattle.ac_claims_paths.specs.ModelPositions.{CallAt}

-- the positions are arguments of the calls that meet in this order
pub record IsMet (swaps : Symbol → Bool) (order : Order) (c d : CallAt) (left right : Position) : Type 0 where
  pub left_number : ℕ
  pub right_number : ℕ
  pub meet : ArgumentsMeet swaps order c.symbol left_number right_number
  pub left_argument : slice_get c.args left_number ≡ Some left
  pub right_argument : slice_get d.args right_number ≡ Some right
