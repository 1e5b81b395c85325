-- Widening points that are made, one for each of some pairs of positions.
use Rattle.std.specs.Prelude.{◌≡◌, ◌↔◌, List, [], map}
use Rattle.ac_syntax.specs.declared.tree.Pair.{Pair}
use Rattle.ac_syntax.specs.declared.tree.Position.{Position}
use Rattle.ac_forms.specs.ListMembers.{IsAmong}
use Rattle.ac_graph.specs.PairMoves.{AreDistinct, pairing_of}
use Rattle.ac_claims_paths.specs.ModelCalls.{pairing}
use Rattle.ac_claims_paths.specs.declared.path.Programs.{Programs}
use Rattle.ac_widen.specs.Combinations.{Each}
use Rattle.ac_walk_state.specs.RecurrencePairs.{WideningPointOf, positions}
use Rattle.ac_walk_state.specs.RecurrencePairInvariant.{IsWideningPoint}
use Rattle.ac_walk_state.specs.declared.template.Template.{Template}
use Rattle.ac_walk_state.specs.OrderKnowledge.{IsWide}

-- a widening point that is right by every template for no entries, and as wide as its pair of positions in the programs
pub record IsFresh (programs : Programs) (k : WideningPointOf) : Type 0 where
  pub right : (t : Template) → IsWideningPoint t [] k
  pub width : (pair : Pair) → pairing_of pair ≡ pairing programs → IsWide pair k

-- one such widening point for each of the pairs
pub record HaveWideningPoints (programs : Programs) (pairs : List (Position × Position)) (widening_points : List WideningPointOf) : Type 0 where
  pub fresh : Each (IsFresh programs) widening_points
  pub distinct : AreDistinct (map positions widening_points)
  pub all : (pair : Position × Position) → IsAmong pair (map positions widening_points) ↔ IsAmong pair pairs
