-- The questions one step behind the pairs of a claim, as a list.
use Rattle.std.specs.Prelude.{ℕ, List, [], ◌∷◌, ◌++◌, Option, Some, None, unwrap_or}
use Rattle.std.specs.List.{flat_map, range_with_len}
use Rattle.std.specs.Option.{option_to_list}
use Rattle.ac_syntax.specs.declared.tree.Order.{Order}
use Rattle.ac_syntax.specs.declared.tree.Order.TheVariants.{Keep}
use Rattle.ac_syntax.specs.declared.tree.Site.{Site}
use Rattle.ac_claims_paths.specs.PathSteps.{Pairing, branches}
use Rattle.ac_claims_paths.specs.ModelPositions.{cell_read}
use Rattle.ac_claims_paths.specs.declared.places.CellForms.{CellForms}
use Rattle.ac_claims_paths.specs.declared.path.Path.{Path}
use Rattle.ac_claims_paths.specs.declared.path.Side.{Side}
use Rattle.ac_claims_paths.specs.declared.path.Side.TheVariants.{Left, Right}
use Rattle.ac_claims.specs.ProofFaults.{domain}
use Rattle.ac_claims.specs.RemainingPlans.{count_by, start_at}
use Rattle.ac_claims.specs.declared.types.Claim.{Claim}
use Rattle.ac_flow.specs.declared.types.Case.{Case}
use Rattle.ac_flow.specs.declared.types.ReadFlow.{ReadFlow}
use Rattle.ac_flow.specs.declared.types.Remainder.{Remainder}
use Rattle.ac_unfold_plans.specs.PlanStops.{positions_at}
use Rattle.ac_widen_programs.specs.PairPathSteps.{at_rest}
use Rattle.ac_unfold_plans.specs.ArgumentOrders.{order_of}
use Rattle.ac_unfold_table.specs.StepQuestions.{flow_of, judge}
use Rattle.ac_unfold.specs.declared.types.ProgramFlows.{ProgramFlows}

-- the branches of a step, none where there is no such step
abbrev pub branches_of : Pairing → Order → Path → List Path
branches_of g order q = unwrap_or (branches g order q) []

-- a question at what is left of a case, where it is formed
abbrev pub at_rest_of : ℕ → Path → Remainder → List Path
at_rest_of params q rest = option_to_list (at_rest params q rest.conj)

-- those of one case
abbrev pub rests_of : ℕ → Path → Case → List Path
rests_of params q case = flat_map (at_rest_of params q) case.pieces

-- those of all cases, each at the branch with its number
abbrev pub cases_of : ℕ → List Path → List Case → List Path
cases_of params [] cases = []
cases_of params (b ∷ bs) [] = []
cases_of params (b ∷ bs) (case ∷ cases) = rests_of params b case ++ cases_of params bs cases

abbrev pub cases_by : ℕ → List Path → Option ReadFlow → List Path
cases_by params bs None = []
cases_by params bs (Some flow) = cases_of params bs flow.cases

-- those behind the read or the output on a side
abbrev pub reads_of : ProgramFlows → Side → Path → List Path
reads_of program_flows side q = cases_by (judge program_flows).params (branches_of (judge program_flows) Keep q) (flow_of program_flows side q)

-- those behind a question, by what is read on both sides
abbrev pub next_by : ProgramFlows → List (Site × Order) → Path → Option CellForms → Option CellForms → List Path
next_by program_flows order q (Some cell) right = reads_of program_flows Left q
next_by program_flows order q None (Some cell) = reads_of program_flows Right q
next_by program_flows order q None None = branches_of (judge program_flows) (order_of order (positions_at q)) q

abbrev pub next_of : ProgramFlows → List (Site × Order) → Path → List Path
next_of program_flows order q = next_by program_flows order q (cell_read (judge program_flows).left q.left.position) (cell_read (judge program_flows).right q.right.position)

-- those behind a start, where it is made
abbrev pub next_if : ProgramFlows → List (Site × Order) → Option Path → List Path
next_if program_flows order None = []
next_if program_flows order (Some q) = next_of program_flows order q

-- those behind the starts of a claim at one piece of its left position and some of its right one
abbrev pub beside_of : ProgramFlows → List (Site × Order) → Claim → ℕ → ℕ → List Path
beside_of program_flows order c rights left = flat_map (λ right. next_if program_flows order (start_at (judge program_flows) c left right)) (range_with_len 0 rights)

-- those behind a claim
abbrev pub questions_of : ProgramFlows → List (Site × Order) → Claim → List Path
questions_of program_flows order c = flat_map (beside_of program_flows order c (count_by (domain (judge program_flows).right c.right))) (range_with_len 0 (count_by (domain (judge program_flows).left c.left)))
