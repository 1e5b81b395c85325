-- How a search under one order goes on and ends.
use Rattle.std.specs.Prelude.{List}
use Rattle.ac_syntax.specs.declared.tree.Order.{Order}
use Rattle.ac_syntax.specs.declared.tree.Site.{Site}
use Rattle.ac_walk_state.specs.Growth.{IfKnown, IfMismatch}
use Rattle.ac_walk_state.specs.declared.growth.Growth.{Growth}
use Rattle.ac_unfold_plans.specs.ArgumentOrders.{order_of}
use Rattle.ac_walk.specs.OutputSearch.{IsFound, IsKnownUnder, ShowMismatch}
use Rattle.ac_walk.specs.declared.search_types.Ended.{Ended}
use Rattle.ac_walk.specs.declared.search_types.Ended.TheVariants.{Stands, Mismatch}
use Rattle.ac_walk.specs.declared.search_types.Search.{Search}
use Rattle.ac_walk.specs.declared.walking.Turn.{Turn}
use Rattle.ac_walk.specs.declared.walking.Turn.TheVariants as turn

-- the part of the output is found under the order; or the entries show a mismatch under it
abbrev pub IsEnd : Search → List (Site × Order) → Ended → Type 0
IsEnd s order (Stands part) = IsFound s.pair.now (order_of order) s.array s.first part
IsEnd s order (Mismatch why) = ShowMismatch s order why.entries

-- the search goes on with what is known then, or ends
abbrev pub IsTurn : Search → List (Site × Order) → Turn → Type 0
IsTurn s order (turn.Onward state) = IsKnownUnder s order state.known
IsTurn s order (turn.Ended ended) = IsEnd s order ended

-- what is known under the order is so behind a growth, and its mismatch is one
abbrev pub TurnsOn : Growth → Turn → Type 0
TurnsOn growth next = (s : Search) (order : List (Site × Order)) → IfKnown (IsKnownUnder s order) growth → IfMismatch (ShowMismatch s order) growth → IsTurn s order next
