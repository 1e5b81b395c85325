-- What the functions of an unfolding promise of their stops.
use Rattle.std.specs.Prelude.{◌≡◌, ◌⊎◌, ◌≤◌, ℕ, List, ℤ, length, Some, None, slice_get}
use Rattle.std.specs.List.{AllByRecursion}
use Rattle.ac_forms.specs.ListMembers.{IsAmong}
use Rattle.ac_forms.specs.Rows.{Holds, Meets}
use Rattle.ac_forms.specs.declared.conj.Conj.{Conj}
use Rattle.ac_forms.specs.declared.row.Row.{Row}
use Rattle.ac_claims_paths.specs.declared.path.Path.{Path}
use Rattle.ac_claims_paths.specs.declared.path.Seat.{Seat}
use Rattle.ac_claims_paths.specs.declared.path.Side.{Side}
use Rattle.ac_claims.specs.declared.types.Kill.{Kill}
use Rattle.ac_flow.specs.declared.types.Case.{Case}
use Rattle.ac_claims_plans.specs.BranchSides.{AreSides}
use Rattle.ac_claims_plans.specs.declared.branching.Part.{Part}
use Rattle.ac_claims_plans.specs.declared.branching.Parts.{Parts}
use Rattle.ac_widen_programs.specs.PairPaths.{Unfolding}
use Rattle.ac_widen_programs.specs.PairPathSteps.{flow_on, onward, IsBranchOf}
use Rattle.ac_unfold.specs.UnfoldQuestions.{kill_on, AreNotFormed, AreTargets, AreTwoCalls, GoesOn, IsBesideRow, IsCut, IsFollowed, IsNew, IsOnSide}
use Rattle.ac_unfold.specs.UnfoldCauses.{IsTooCostly, IsTooWide, IsStopOf}
use Rattle.ac_unfold.specs.PlanResults.{judge_of}
use Rattle.ac_unfold.specs.RequiredRows.{CanStand}
use Rattle.ac_unfold.specs.BrokenPathResults.{IsOf}
use Rattle.ac_unfold.specs.declared.ends.Search.{Search}
use Rattle.ac_unfold.specs.declared.kinds.Next.{Next}
use Rattle.ac_unfold.specs.declared.kinds.Next.TheVariants as next
use Rattle.ac_unfold.specs.declared.types.UnfoldStop.{UnfoldStop}
use Rattle.ac_unfold.specs.declared.types.UnfoldStop.TheVariants.{Overflow, Spent, Paths, Memory}

-- ---- one question

-- it is one of these questions that is too wide, or too costly
abbrev pub StopsAmong : ℕ → (Conj → Type 0) → UnfoldStop → Type 0
StopsAmong budget Is (Overflow q) = Is q × IsTooWide budget q
StopsAmong budget Is (Spent q cost) = Is q × IsTooCostly budget cost q
StopsAmong budget Is (Paths found) = Unit {0}
StopsAmong budget Is (Memory want) = Unit {0}

-- it is this one
abbrev pub StopsAsking : ℕ → Conj → UnfoldStop → Type 0
StopsAsking budget c stop = StopsAmong budget (λ q. q ≡ c) stop

-- ---- rows that have to stand

abbrev pub StopsOutside : ℕ → Conj → List Part → UnfoldStop → Type 0
StopsOutside budget c parts stop = StopsAmong budget (IsOnSide c parts) stop

-- the question, or beside it where one of the rows does not stand
abbrev pub IsAround : Conj → List Row → Conj → Type 0
IsAround c rows q = (q ≡ c) ⊎ IsBesideRow c rows q

-- one of these is too wide, or one of the rows is not formed; or one is too costly
abbrev pub StopsStanding : ℕ → Conj → List Row → UnfoldStop → Type 0
StopsStanding budget c rows (Overflow q) = (IsAround c rows q × IsTooWide budget q) ⊎ ((q ≡ c) × AreNotFormed c.columns (Some rows))
StopsStanding budget c rows (Spent q cost) = IsAround c rows q × IsTooCostly budget cost q
StopsStanding budget c rows (Paths found) = Unit {0}
StopsStanding budget c rows (Memory want) = Unit {0}

-- ---- rows that are not formed

-- the question is handed back, and that is so
abbrev pub HandsBack : Conj → Type 0 → UnfoldStop → Type 0
HandsBack c Why (Overflow q) = (q ≡ c) × Why
HandsBack c Why (Spent q cost) = ⊥
HandsBack c Why (Paths found) = ⊥
HandsBack c Why (Memory want) = Unit {0}

-- no rows that have to stand at the pair of the question
abbrev pub HandsTargets : Search → Path → UnfoldStop → Type 0
HandsTargets search q stop = HandsBack q.conj (AreTargets (judge_of search) search.claims.now q None) stop

-- where two calls stand there
abbrev pub HasItsCalls : Search → Path → Next → Type 0
HasItsCalls search q (next.Read side) = Unit {0}
HasItsCalls search q (next.Calls order) = AreTwoCalls (judge_of search) q
HasItsCalls search q (next.Match rows end) = Unit {0}
HasItsCalls search q next.Mismatch = Unit {0}

-- where rows have to stand there
abbrev pub IsMatchOf : Search → Path → Next → Type 0
IsMatchOf search q (next.Read side) = Unit {0}
IsMatchOf search q (next.Calls order) = Unit {0}
IsMatchOf search q (next.Match rows end) = AreTargets (judge_of search) search.claims.now q (Some rows)
IsMatchOf search q next.Mismatch = Unit {0}

-- ---- where an unfolding stops

-- each unfolding of the search that is at this place stops so
abbrev pub StopsUnder : Search → (Unfolding → Type 0) → UnfoldStop → Type 0
StopsUnder search At (Overflow q) = (u : Unfolding) → IsOf search u → At u → IsStopOf u search.program_flows.now.left_flow.now search.program_flows.now.right_flow.now search.claims.now search.budget (Overflow q)
StopsUnder search At (Spent q cost) = (u : Unfolding) → IsOf search u → At u → IsStopOf u search.program_flows.now.left_flow.now search.program_flows.now.right_flow.now search.claims.now search.budget (Spent q cost)
StopsUnder search At (Paths found) = Unit {0}
StopsUnder search At (Memory want) = Unit {0}

-- ---- places

-- it follows a path to the question
abbrev pub Follows : Search → List (Seat × Seat) → Path → Unfolding → Type 0
Follows search pair_path q u = IsFollowed u search.program_flows.now.left_flow.now search.program_flows.now.right_flow.now search.claims.now pair_path q

-- and goes on from there
pub record FollowsOn (search : Search) (pair_path : List (Seat × Seat)) (q : Path) (u : Unfolding) : Type 0 where
  pub follows : Follows search pair_path q u
  pub goes_on : GoesOn search.claims.now q

-- it goes on from a question to this branch of a case
pub record FollowsCase (search : Search) (case : Case) (pair_path : List (Seat × Seat)) (b : Path) (u : Unfolding) : Type 0 where
  pub before : List (Seat × Seat)
  pub question : Path
  pub on : FollowsOn search before question u
  pub side : Side
  pub branch : IsBranchOf u (flow_on search.program_flows.now.left_flow.now search.program_flows.now.right_flow.now side) side question case b
  pub pair_path_is : pair_path ≡ onward before b

-- or to it, cut by kills of the case; so many kills are passed, and so many rows of the next one
pub record FollowsCut (search : Search) (case : Case) (number row : ℕ) (pair_path : List (Seat × Seat)) (q : Path) (u : Unfolding) : Type 0 where
  pub branch : Path
  pub in_case : FollowsCase search case pair_path branch u
  pub cut : IsCut (judge_of search).params case branch number row q

-- ---- kills

-- these are the rows of the kill with the number, over the columns of the question
pub record AreKillsRows (search : Search) (case : Case) (number : ℕ) (q : Path) (rows : List Row) : Type 0 where
  pub kill : Conj × Kill
  pub is : slice_get case.kills number ≡ Some kill
  pub are : kill_on (judge_of search).params q kill.0 ≡ Some rows

-- the row with a number is one of them
pub record IsKillsRow (search : Search) (case : Case) (number at : ℕ) (q : Path) (row : Row) : Type 0 where
  pub rows : List Row
  pub are : AreKillsRows search case number q rows
  pub is : slice_get rows at ≡ Some row

-- the row can stand, and these are its sides: each of those where it does not hold is new
pub record AreNewSides (c : Conj) (row : Row) (parts : Parts) : Type 0 where
  pub can : CanStand c.columns row
  pub are : AreSides c.columns row (Some parts)
  pub new : AllByRecursion (IsNew c) parts.outside

-- no point of the question meets the row
abbrev pub NeverHolds : Conj → Row → Type 0
NeverHolds c row = (p : List ℤ) → c.columns ≤ length p → Meets c.rows p → ¬ (Holds row p)

-- the question has the rows of one of these sides already
pub record HasSide (c : Conj) (parts : List Part) : Type 0 where
  pub part : Part
  pub among : IsAmong part parts
  pub columns : part.question_columns ≡ 0
  pub holds : (p : List ℤ) → Meets c.rows p → Meets part.rows p
