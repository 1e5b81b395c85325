-- How a pair path goes on: from the start of a claim, behind the branches of a step, and at what is left of a case.
use Rattle.std.specs.Prelude.{ℕ, ◌+◌, ◌-◌, ◌≡◌, ◌≤◌, ◌++◌, List, [], ◌∷◌, ℤ, Option, Some, None, length, option_and_then, option_map, slice_get, take, drop}
use Rattle.std.specs.List.{range_with_len}
use Rattle.ac_forms.specs.Renaming.{picked, rows_renaming}
use Rattle.ac_forms.specs.Rows.{Meets, AreRowsOver}
use Rattle.ac_forms.specs.declared.conj.Conj.{Conj}
use Rattle.ac_forms.specs.declared.row.Row.{Row}
use Rattle.ac_syntax.specs.declared.tree.Order.{Order}
use Rattle.ac_syntax.specs.declared.tree.Order.TheVariants.{Keep}
use Rattle.ac_syntax.specs.declared.tree.Position.{Position}
use Rattle.ac_claims.specs.RemainingPlans.{start_at}
use Rattle.ac_claims.specs.Soundness.{ArePaired}
use Rattle.ac_claims_paths.specs.WellFormedPaths.{SeatIn}
use Rattle.ac_claims_paths.specs.PathSteps.{at_rows, branches, extended, seat_of}
use Rattle.ac_claims_paths.specs.CopyKills.{case_columns}
use Rattle.ac_forms.specs.ListMembers.{IsAmong}
use Rattle.ac_claims_paths.specs.ModelPositions.{cell_read}
use Rattle.ac_claims_paths.specs.declared.path.Assumed.{Assumed}
use Rattle.ac_claims_paths.specs.declared.path.Path.{Path}
use Rattle.ac_claims_paths.specs.declared.path.Seat.{Seat}
use Rattle.ac_claims_paths.specs.declared.path.Side.{Side}
use Rattle.ac_claims_paths.specs.declared.path.Side.TheVariants.{Left, Right}
use Rattle.ac_flow.specs.declared.types.Case.{Case}
use Rattle.ac_flow.specs.declared.types.Flow.{Flow}
use Rattle.ac_flow.specs.declared.types.ReadFlow.{ReadFlow}
use Rattle.ac_flow.specs.declared.types.Remainder.{Remainder}
use Rattle.ac_flow.specs.SourceSteps.{InNoKill}
use Rattle.ac_graph.specs.PairMoves.{IsReader, pairing_of}
use Rattle.ac_graph.specs.GraphMeaning.{HaveFlows}
use Rattle.ac_widen_programs.specs.PairSetting.{order_at}
use Rattle.ac_widen_programs.specs.PairPaths.{Unfolding, ComesTo, Leads, params_of, point_of, positions_of, seats_of}

-- ---- the start

-- the start of the claim at a piece of each of its positions leads to itself
abbrev pub StartsLead : Type 0
StartsLead =
    (u : Unfolding) (left right : ℕ) (q : Path) → ArePaired u.pair → start_at (pairing_of u.pair) u.claim left right ≡ Some q → AreRowsOver q.conj.columns u.claim.rows
    → Leads u (seats_of q ∷ []) q

-- ---- behind a step

-- a pair path with one pair more, that of a branch
abbrev pub onward : List (Seat × Seat) → Path → List (Seat × Seat)
onward pair_path b = pair_path ++ seats_of b ∷ []

-- no read and no output stands on either side
pub record AreNoReaders (u : Unfolding) (q : Path) : Type 0 where
  pub left : cell_read (pairing_of u.pair).left q.left.position ≡ None
  pub right : cell_read (pairing_of u.pair).right q.right.position ≡ None

-- the order of the arguments of two calls: that of the unfolding at a site, and as they stand elsewhere
abbrev pub order_of : Unfolding → Path → Order
order_of u q = order_at u.pair (positions_of (seats_of q)) (u.order (positions_of (seats_of q)))

-- two calls go on at each branch that their order has
abbrev pub CallsLead : Type 0
CallsLead =
    (u : Unfolding) (pair_path : List (Seat × Seat)) (q b : Path) (bs : List Path) → Leads u pair_path q → AreNoReaders u q → branches (pairing_of u.pair) (order_of u q) q ≡ Some bs → IsAmong b bs → Leads u (onward pair_path b) b

-- an order by which two calls have branches is the one at their positions
abbrev pub OrdersAreTaken : Type 0
OrdersAreTaken =
    (u : Unfolding) (q : Path) (order : Order) (bs : List Path) → AreNoReaders u q → branches (pairing_of u.pair) order q ≡ Some bs → order_at u.pair (positions_of (seats_of q)) order ≡ order

-- the step of a pair is that of this side: a read or an output stands there, and none on the left where it is the right side
abbrev pub ReadsOn : Unfolding → Side → Path → Type 0
ReadsOn u Left q = IsReader (pairing_of u.pair).left q.left.position
ReadsOn u Right q = (cell_read (pairing_of u.pair).left q.left.position ≡ None) × IsReader (pairing_of u.pair).right q.right.position

abbrev pub flow_on : Flow → Flow → Side → Flow
flow_on left right Left = left
flow_on left right Right = right

-- the branch of a case of a flow: both have one number
pub record IsBranchOf (u : Unfolding) (flow : Flow) (side : Side) (q : Path) (case : Case) (b : Path) : Type 0 where
  pub reads : ReadsOn u side q
  pub read : ReadFlow
  pub among : IsAmong read flow.reads
  pub position_is : read.position ≡ (seat_of q side).position
  pub branches_of : List Path
  pub are : branches (pairing_of u.pair) Keep q ≡ Some branches_of
  pub number : ℕ
  pub branch_is : slice_get branches_of number ≡ Some b
  pub case_is : slice_get read.cases number ≡ Some case

-- the columns of what is left of a case: those of the case, then further ones for its quotients, behind so many
abbrev pub further : ℕ → Assumed → Conj → ℕ
further params a rest = rest.columns - length (case_columns params a)

abbrev pub columns_left : ℕ → Assumed → ℕ → Conj → List ℕ
columns_left params a columns rest = case_columns params a ++ range_with_len columns (further params a rest)

abbrev pub with_rest : ℕ → Path → Conj → Assumed → Option Path
with_rest params b rest a =
    option_map (λ rows. at_rows b (extended b.conj (further params a rest) rows)) (rows_renaming (columns_left params a b.conj.columns rest) rest.rows)

-- the branch of a case, at the rows of what is left of it
abbrev pub at_rest : ℕ → Path → Conj → Option Path
at_rest params b rest = option_and_then (with_rest params b rest) b.last

-- a read or an output goes on at what is left of a case
abbrev pub ReadsLead : Type 0
ReadsLead =
    (u : Unfolding) (pair_path : List (Seat × Seat)) (left right : Flow) (side : Side) (q b d : Path) (case : Case) (rest : Remainder) → HaveFlows u.pair left right → Leads u pair_path q → IsBranchOf u (flow_on left right side) side q case b
    → IsAmong rest case.pieces → at_rest (params_of u) b rest.conj ≡ Some d → Leads u (onward pair_path b) d

-- the point is in none of the kills of the case of the branch
abbrev pub IsOutside : Unfolding → Case → Path → List ℤ → Type 0
IsOutside u case b p = (a : Assumed) → b.last ≡ Some a → InNoKill case.kills (picked (case_columns (params_of u) a) p)

-- and at each point of the branch of a case outside its kills
abbrev pub SurvivorsLead : Type 0
SurvivorsLead =
    (u : Unfolding) (pair_path : List (Seat × Seat)) (left right : Flow) (side : Side) (q b : Path) (case : Case) → HaveFlows u.pair left right → Leads u pair_path q → IsBranchOf u (flow_on left right side) side q case b
    → (p : List ℤ) → b.conj.columns ≤ length p → Meets b.conj.rows p → IsOutside u case b p → ComesTo u (onward pair_path b) b p

-- such points are there only where something is left of the case
abbrev pub SurvivorsAreLeft : Type 0
SurvivorsAreLeft =
    (u : Unfolding) (pair_path : List (Seat × Seat)) (left right : Flow) (side : Side) (q b : Path) (case : Case) → HaveFlows u.pair left right → Leads u pair_path q → IsBranchOf u (flow_on left right side) side q case b
    → (p : List ℤ) → b.conj.columns ≤ length p → Meets b.conj.rows p → IsOutside u case b p → ¬ (case.pieces ≡ [])

-- each point of the rows is in none of the kills
abbrev pub AreOutside : Unfolding → Case → Path → Conj → Type 0
AreOutside u case b c = (p : List ℤ) → c.columns ≤ length p → Meets c.rows p → IsOutside u case b p

-- ---- further rows and columns

-- a pair path leads to a question with further rows, and further columns behind its own
abbrev pub QuestionsGrow : Type 0
QuestionsGrow = (u : Unfolding) (pair_path : List (Seat × Seat)) (q : Path) (more : ℕ) (rows : List Row) → Leads u pair_path q → Leads u pair_path (at_rows q (extended q.conj more rows))

-- ---- the questions of an unfolding

-- those to which an unfolding comes by these flows, each with its pair path: from a start by branches of calls, by what is left of cases or what
-- lies outside their kills, and with further rows and columns
pub data IsReached (u : Unfolding) (left right : Flow) : List (Seat × Seat) → Path → Type 0 where
  start : (i k : ℕ) (q : Path) → start_at (pairing_of u.pair) u.claim i k ≡ Some q → AreRowsOver q.conj.columns u.claim.rows → IsReached u left right (seats_of q ∷ []) q
  call : (pair_path : List (Seat × Seat)) (q b : Path) (bs : List Path) → IsReached u left right pair_path q → AreNoReaders u q → branches (pairing_of u.pair) (order_of u q) q ≡ Some bs → IsAmong b bs → IsReached u left right (onward pair_path b) b
  read : (pair_path : List (Seat × Seat)) (side : Side) (q b d : Path) (case : Case) (rest : Remainder) → IsReached u left right pair_path q → IsBranchOf u (flow_on left right side) side q case b → IsAmong rest case.pieces → at_rest (params_of u) b rest.conj ≡ Some d
      → IsReached u left right (onward pair_path b) d
  survive : (pair_path : List (Seat × Seat)) (side : Side) (q b : Path) (case : Case) (more : ℕ) (rows : List Row) → IsReached u left right pair_path q → IsBranchOf u (flow_on left right side) side q case b → AreOutside u case b (extended b.conj more rows)
      → IsReached u left right (onward pair_path b) (at_rows b (extended b.conj more rows))
  grow : (pair_path : List (Seat × Seat)) (q : Path) (more : ℕ) (rows : List Row) → IsReached u left right pair_path q → IsReached u left right pair_path (at_rows q (extended q.conj more rows))

-- its pair path leads to each of them
abbrev pub PairPathsLead : Type 0
PairPathsLead = (u : Unfolding) (left right : Flow) (pair_path : List (Seat × Seat)) (q : Path) → HaveFlows u.pair left right → IsReached u left right pair_path q → Leads u pair_path q

-- ---- other orders

-- the order gives the same as that of the unfolding, at each pair of a pair path from which a step is taken
abbrev pub HasOrdersOf : Unfolding → (Position × Position → Order) → List (Seat × Seat) → Type 0
HasOrdersOf u order [] = Unit {0}
HasOrdersOf u order (s ∷ []) = Unit {0}
HasOrdersOf u order (s ∷ t ∷ pair_path) = (order_at u.pair (positions_of s) (order (positions_of s)) ≡ order_at u.pair (positions_of s) (u.order (positions_of s))) × HasOrdersOf u order (t ∷ pair_path)

-- a pair path comes there under each such order
abbrev pub OrdersMayChange : Type 0
OrdersMayChange = (u : Unfolding) (order : Position × Position → Order) (pair_path : List (Seat × Seat)) (q : Path) (p : List ℤ) → ComesTo u pair_path q p → HasOrdersOf u order pair_path → ComesTo (record u { order = order }) pair_path q p

-- ---- the numbers of a pair

-- the numbers in the columns of a seat
abbrev pub numbers_of : Seat → List ℤ → List ℤ
numbers_of seat p = take seat.width (drop seat.first p)

-- the point of a pair of seats has the first numbers of the question's point, and those in the columns of both seats
abbrev pub PointsAreNumbers : Type 0
PointsAreNumbers = (params : ℕ) (s : Seat × Seat) (p : List ℤ) → params ≤ length p → SeatIn s.0 (length p) → SeatIn s.1 (length p) → point_of params p s ≡ take params p ++ (numbers_of s.0 p ++ numbers_of s.1 p)
