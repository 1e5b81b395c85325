-- The questions one step behind the pairs of a claim.
use Rattle.std.specs.Prelude.{◌≡◌, ℕ, List, Option, Some, None, slice_get}
use Rattle.ac_syntax.specs.declared.tree.Order.{Order}
use Rattle.ac_syntax.specs.declared.tree.Order.TheVariants.{Keep}
use Rattle.ac_syntax.specs.declared.tree.Site.{Site}
use Rattle.ac_forms.specs.ListMembers.{IsAmong}
use Rattle.ac_claims_paths.specs.ModelCalls.{pairing}
use Rattle.ac_claims_paths.specs.PathSteps.{Pairing, branches, seat_of}
use Rattle.ac_claims_paths.specs.ModelPositions.{cell_read}
use Rattle.ac_claims_paths.specs.declared.places.CellForms.{CellForms}
use Rattle.ac_claims_paths.specs.declared.path.Path.{Path}
use Rattle.ac_claims_paths.specs.declared.path.Side.{Side}
use Rattle.ac_claims_paths.specs.declared.path.Side.TheVariants.{Left, Right}
use Rattle.ac_claims.specs.RemainingPlans.{start_at}
use Rattle.ac_claims.specs.declared.types.Claim.{Claim}
use Rattle.ac_flow.specs.declared.types.Case.{Case}
use Rattle.ac_flow.specs.declared.types.ReadFlow.{ReadFlow}
use Rattle.ac_flow.specs.declared.types.Remainder.{Remainder}
use Rattle.ac_unfold_plans.specs.PlanStops.{positions_at}
use Rattle.ac_widen_programs.specs.PairPathSteps.{at_rest, flow_on}
use Rattle.ac_unfold_plans.specs.ArgumentOrders.{order_of}
use Rattle.ac_unfold.specs.PositionFlow.{flow_at}
use Rattle.ac_unfold.specs.declared.types.ProgramFlows.{ProgramFlows}

-- the programs of a setting
abbrev pub judge : ProgramFlows → Pairing
judge program_flows = pairing program_flows.programs

-- the flow of the read or the output on a side
abbrev pub flow_of : ProgramFlows → Side → Path → Option ReadFlow
flow_of program_flows side q = flow_at (flow_on program_flows.left_flow.now program_flows.right_flow.now side).reads (seat_of q side).position

-- no read and no output stands on either side
pub record HasNoReader (g : Pairing) (q : Path) : Type 0 where
  pub left : cell_read g.left q.left.position ≡ None
  pub right : cell_read g.right q.right.position ≡ None

-- the step of a pair is that of this side: a read or an output stands there, and none on the left where it is the right side
abbrev pub ReadsAt : Pairing → Side → Path → Type 0
ReadsAt g Left q = (cell : CellForms) × (cell_read g.left q.left.position ≡ Some cell)
ReadsAt g Right q = (cell_read g.left q.left.position ≡ None) × ((cell : CellForms) × (cell_read g.right q.right.position ≡ Some cell))

-- one step behind a question: the branches of two calls in the order that is listed for them; or what is left of a case of a read or an output, at the branch
-- with the number of the case
pub data IsNext (program_flows : ProgramFlows) (order : List (Site × Order)) (q : Path) : Path → Type 0 where
  call : (bs : List Path) (b : Path) → HasNoReader (judge program_flows) q → branches (judge program_flows) (order_of order (positions_at q)) q ≡ Some bs → IsAmong b bs → IsNext program_flows order q b
  read : (side : Side) (flow : ReadFlow) (bs : List Path) (number : ℕ) (b : Path) (case : Case) (rest : Remainder) (d : Path) → ReadsAt (judge program_flows) side q → flow_of program_flows side q ≡ Some flow → branches (judge program_flows) Keep q ≡ Some bs
      → slice_get bs number ≡ Some b → slice_get flow.cases number ≡ Some case → IsAmong rest case.pieces → at_rest (judge program_flows).params b rest.conj ≡ Some d → IsNext program_flows order q d

-- one step behind a claim: behind its start at a piece of each of its positions
pub record IsStepBehind (program_flows : ProgramFlows) (order : List (Site × Order)) (c : Claim) (q : Path) : Type 0 where
  pub left : ℕ
  pub right : ℕ
  pub start : Path
  pub start_is : start_at (judge program_flows) c left right ≡ Some start
  pub next : IsNext program_flows order start q
