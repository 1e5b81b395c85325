-- The law on unmatched outputs.
use Rattle.std.specs.Prelude.{ℕ, List}
use Rattle.ac_syntax.specs.declared.tree.Order.{Order}
use Rattle.ac_syntax.specs.declared.tree.Pair.{Pair}
use Rattle.ac_syntax.specs.declared.tree.Position.{Position}
use Rattle.ac_match.specs.declared.orders.Refuted.{Refuted}
use Rattle.ac_widen.specs.Obligations.{HasMismatch}
use Rattle.ac_walk_state.specs.SearchSetting.{Widening, IsWideningOf, searched}
use Rattle.ac_walk_state.specs.UnmatchedOutputs.{IsUnmatched}

-- of an unmatched output each order has a mismatch
abbrev pub UnmatchedHaveMismatches : Type 0
UnmatchedHaveMismatches = (pair : Pair) (output : ℕ) (list : List Refuted) → IsUnmatched pair output list → (w : Widening) → IsWideningOf pair output w → (order : Position × Position → Order) → HasMismatch (searched pair output w) order
