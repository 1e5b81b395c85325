-- What it means that some order of the sites of an output has no mismatch.
use Rattle.std.specs.Prelude.{ℕ}
use Rattle.ac_syntax.specs.declared.tree.Order.{Order}
use Rattle.ac_syntax.specs.declared.tree.Pair.{Pair}
use Rattle.ac_syntax.specs.declared.tree.Position.{Position}
use Rattle.ac_widen.specs.Obligations.{HasMismatch}
use Rattle.ac_walk_state.specs.SearchSetting.{Widening, IsWideningOf, searched}

-- the pair has a widening, and in the setting of the search on the output that widens so no obligation is a mismatch under some order
pub record IsMatched (pair : Pair) (output : ℕ) : Type 0 where
  pub widening : (w : Widening) × IsWideningOf pair output w
  pub matched : (w : Widening) → IsWideningOf pair output w → (order : Position × Position → Order) × ¬ (HasMismatch (searched pair output w) order)
