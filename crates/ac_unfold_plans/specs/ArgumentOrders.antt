-- The order of the arguments and the recurrence pairs, as lists.
use Rattle.std.specs.Prelude.{◌≡◌, List, [], ◌∷◌, Bool, true, cond}
use Rattle.ac_syntax.specs.declared.tree.Order.{Order}
use Rattle.ac_syntax.specs.declared.tree.Order.TheVariants.{Keep}
use Rattle.ac_syntax.specs.declared.tree.Position.{Position}
use Rattle.ac_syntax.specs.declared.tree.Site.{Site}
use Rattle.ac_forms.specs.ListMembers.{IsAmong}
use Rattle.ac_claims.specs.ProofEnds.{same_pair}

-- the order that is listed for a pair of positions first; the arguments keep theirs where none is
abbrev pub order_of : List (Site × Order) → Position × Position → Order
order_of [] positions = Keep
order_of (c ∷ cs) positions = cond (same_pair (c.0.left, c.0.right) positions) c.1 (order_of cs positions)

-- all recurrence pairs are among those
abbrev pub AreAll : List (Position × Position) → (Position × Position → Bool) → Type 0
AreAll pairs recurrent = (positions : Position × Position) → recurrent positions ≡ true → IsAmong positions pairs
