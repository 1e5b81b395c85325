-- What an unfolding follows.
use Rattle.std.specs.Prelude.{◌≡◌, List}
use Rattle.ac_syntax.specs.declared.tree.Order.{Order}
use Rattle.ac_syntax.specs.declared.tree.Position.{Position}
use Rattle.ac_syntax.specs.declared.tree.Site.{Site}
use Rattle.ac_claims_paths.specs.ModelCalls.{pairing}
use Rattle.ac_claims.specs.declared.types.Claim.{Claim}
use Rattle.ac_graph.specs.PairMoves.{pairing_of}
use Rattle.ac_graph.specs.GraphMeaning.{HaveFlows}
use Rattle.ac_unfold_plans.specs.ArgumentOrders.{order_of}
use Rattle.ac_widen_programs.specs.PairPaths.{Unfolding}
use Rattle.ac_unfold.specs.declared.types.ProgramFlows.{ProgramFlows}

-- the steps of both programs of the setting, whose flows are theirs, from the pairs of the start on, under the order that is listed
pub record IsUnfoldingOf (program_flows : ProgramFlows) (start : Claim) (order : List (Site × Order)) (u : Unfolding) : Type 0 where
  pub programs : pairing_of u.pair ≡ pairing program_flows.programs
  pub flows : HaveFlows u.pair program_flows.left_flow.now program_flows.right_flow.now
  pub claim : u.claim ≡ start
  pub orders : (positions : Position × Position) → u.order positions ≡ order_of order positions
