-- The questions that an unfolding asks, and the rows that come next at them.
use Rattle.std.specs.Prelude.{◌≡◌, ◌+◌, ℕ, false, true, List, [], ◌∷◌, ◌++◌, length, Option, Some, None, option_and_then, slice_get}
use Rattle.ac_forms.specs.Affine.{Affine}
use Rattle.ac_forms.specs.ListMembers.{IsAmong}
use Rattle.ac_forms.specs.NormalRows.{NormalFits}
use Rattle.ac_forms.specs.Renaming.{rows_renaming}
use Rattle.ac_forms.specs.Rows.{AreRowsOver, IsRowOver, IsWellMade}
use Rattle.ac_forms.specs.Standing.{all_stand}
use Rattle.ac_forms.specs.declared.conj.Conj.{Conj}
use Rattle.ac_forms.specs.declared.row.Row.{Row}
use Rattle.ac_syntax.specs.declared.tree.Order.TheVariants.{Keep}
use Rattle.ac_poly.specs.Model.{is_input}
use Rattle.ac_claims_paths.specs.PathColumns.{base, columns_of}
use Rattle.ac_claims_paths.specs.PathSteps.{Pairing, at_rows, branches, same_symbol}
use Rattle.ac_claims_paths.specs.CopyKills.{case_columns}
use Rattle.ac_claims_paths.specs.ModelPositions.{CallAt, call_at, initial_cell, number_at}
use Rattle.ac_claims_paths.specs.declared.path.Path.{Path}
use Rattle.ac_claims_paths.specs.declared.path.Seat.{Seat}
use Rattle.ac_claims_paths.specs.declared.path.Side.{Side}
use Rattle.ac_claims_paths.specs.declared.places.CellForms.{CellForms}
use Rattle.ac_claims.specs.ProofEnds.{equal_cells, equal_numbers}
use Rattle.ac_claims.specs.RemainingPlans.{start_at}
use Rattle.ac_claims.specs.declared.types.Claim.{Claim}
use Rattle.ac_claims.specs.declared.types.Kill.{Kill}
use Rattle.ac_flow.specs.declared.types.Case.{Case}
use Rattle.ac_flow.specs.declared.types.Flow.{Flow}
use Rattle.ac_flow.specs.declared.types.Remainder.{Remainder}
use Rattle.ac_claims_plans.specs.BranchSides.{inside_of, outside_of, side_of, CanBranch}
use Rattle.ac_claims_plans.specs.declared.branching.Part.{Part}
use Rattle.ac_graph.specs.PairMoves.{pairing_of}
use Rattle.ac_widen_programs.specs.BrokenPaths.{HasNoClaim}
use Rattle.ac_widen_programs.specs.PairPaths.{Unfolding, params_of, positions_of, seats_of}
use Rattle.ac_widen_programs.specs.PairPathSteps.{at_rest, flow_on, onward, order_of, AreNoReaders, IsBranchOf, ReadsOn}

-- ---- the paths of an unfolding

-- a path goes on from the question: behind a step its pair has no claim
abbrev pub GoesOn : List Claim → Path → Type 0
GoesOn claims q = q.gone ≡ true → HasNoClaim claims (seats_of q)

-- the rows of a kill of the case that the question assumes, over its columns; none where one of them cannot be formed in `i128`
abbrev pub kill_on : ℕ → Path → Conj → Option (List Row)
kill_on params q kill = option_and_then (λ a. rows_renaming (case_columns params a) kill.rows) q.last

-- the row with a number of the kill with a number of a case, over the columns of the question
abbrev pub row_at : ℕ → Case → ℕ → ℕ → Path → Option Row
row_at params case kill row q = option_and_then (λ rows. slice_get rows row) (option_and_then (λ (k : Conj × Kill). kill_on params q k.0) (slice_get case.kills kill))

-- a side says something that the question does not: it has a column of its own, or not all of its rows stand among those of the question
abbrev pub IsNew : Conj → Part → Type 0
IsNew c part = part.question_columns ≡ 0 → IsWellMade c → AreRowsOver c.columns part.rows → all_stand c.rows part.rows ≡ false

-- the branch of a case, cut by rows of its kills, by none twice: the kills are passed in their order, and so are the rows of each; so many kills, and so many rows of
-- the next one. At a row the path may stay on a side that is new: where the row holds; or where it does not, and then the kill is passed
pub data IsCut (params : ℕ) (case : Case) (b : Path) : ℕ → ℕ → Path → Type 0 where
  whole : IsCut params case b 0 0 b
  next_row : (kill row : ℕ) (q : Path) → IsCut params case b kill row q → IsCut params case b kill (row + 1) q
  next_kill : (kill row : ℕ) (q : Path) → IsCut params case b kill row q → IsCut params case b (kill + 1) 0 q
  inside : (kill row : ℕ) (q : Path) (r : Row) → IsCut params case b kill row q → row_at params case kill row q ≡ Some r → IsNew q.conj (inside_of r) → IsCut params case b kill (row + 1) (at_rows q (side_of q.conj (inside_of r)))
  outside : (kill row : ℕ) (q : Path) (r : Row) (part : Part) → IsCut params case b kill row q → row_at params case kill row q ≡ Some r → IsAmong part (outside_of q.conj.columns r) → IsNew q.conj part
      → IsCut params case b (kill + 1) 0 (at_rows q (side_of q.conj part))

-- the paths that are followed, up to the first claim behind a step, each with the pairs from the start on: from a start by branches of calls, and by the cases of a
-- read or an output, at what is left of a case or cut by its kills
pub data IsFollowed (u : Unfolding) (left right : Flow) (claims : List Claim) : List (Seat × Seat) → Path → Type 0 where
  start : (i k : ℕ) (q : Path) → start_at (pairing_of u.pair) u.claim i k ≡ Some q → IsFollowed u left right claims (seats_of q ∷ []) q
  call : (pairs : List (Seat × Seat)) (q b : Path) (bs : List Path) → IsFollowed u left right claims pairs q → GoesOn claims q → AreNoReaders u q → branches (pairing_of u.pair) (order_of u q) q ≡ Some bs → IsAmong b bs → IsFollowed u left right claims (onward pairs b) b
  read : (side : Side) (pairs : List (Seat × Seat)) (q b d : Path) (case : Case) (rest : Remainder) → IsFollowed u left right claims pairs q → GoesOn claims q → IsBranchOf u (flow_on left right side) side q case b → IsAmong rest case.pieces → at_rest (params_of u) b rest.conj ≡ Some d
      → IsFollowed u left right claims (onward pairs b) d
  cut : (side : Side) (pairs : List (Seat × Seat)) (q b d : Path) (case : Case) (kill row : ℕ) → IsFollowed u left right claims pairs q → GoesOn claims q → IsBranchOf u (flow_on left right side) side q case b → IsCut (params_of u) case b kill row d
      → IsFollowed u left right claims (onward pairs b) d

-- ---- rows that have to stand

-- at the pair of a question: those of a claim behind a step, the equality of two numbers, or those of the subscripts of two cells of one input; none where one
-- of them cannot be formed in `i128`
pub data AreTargets (g : Pairing) (claims : List Claim) (q : Path) : Option (List Row) → Type 0 where
  claim : (c : Claim) → q.gone ≡ true → IsAmong c claims → q.left.position ≡ c.left → q.right.position ≡ c.right → AreTargets g claims q (rows_renaming (base g.params ++ (columns_of q.left ++ columns_of q.right)) c.rows)
  numbers : (f h : Affine) → number_at g.left q.left.position ≡ Some f → number_at g.right q.right.position ≡ Some h → AreTargets g claims q (equal_numbers g q (Some f) (Some h))
  cells : (c d : CellForms) → initial_cell g.left q.left.position ≡ Some c → initial_cell g.right q.right.position ≡ Some d → c.array ≡ d.array → is_input (slice_get g.left.kinds c.array) ≡ true → AreTargets g claims q (equal_cells g q (Some c) (Some d))

-- ---- calls

-- two calls of one symbol with as many arguments
pub record AreTwoCalls (g : Pairing) (q : Path) : Type 0 where
  pub left : CallAt
  pub left_is : call_at g.left q.left.position ≡ Some left
  pub right : CallAt
  pub right_is : call_at g.right q.right.position ≡ Some right
  pub symbols : same_symbol left.symbol right.symbol ≡ true
  pub counts : length left.args ≡ length right.args

-- ---- questions

-- the conjunction on one of these sides of it
pub record IsOnSide (c : Conj) (parts : List Part) (q : Conj) : Type 0 where
  pub part : Part
  pub among : IsAmong part parts
  pub is : q ≡ side_of c part

-- beside it, where one of the rows does not hold
pub record IsBesideRow (c : Conj) (rows : List Row) (q : Conj) : Type 0 where
  pub row : Row
  pub among : IsAmong row rows
  pub side : IsOnSide c (outside_of c.columns row) q

-- at the end of a path: the path's own, or beside it, where a row that has to stand does not
pub data IsAskedAt (g : Pairing) (claims : List Claim) (q : Path) (c : Conj) : Type 0 where
  here : c ≡ q.conj → IsAskedAt g claims q c
  beside : (rows : List Row) → AreTargets g claims q (Some rows) → IsBesideRow q.conj rows c → IsAskedAt g claims q c

-- those of the paths
pub record IsAsked (u : Unfolding) (left right : Flow) (claims : List Claim) (c : Conj) : Type 0 where
  pub pairs : List (Seat × Seat)
  pub path : Path
  pub followed : IsFollowed u left right claims pairs path
  pub at : IsAskedAt (pairing_of u.pair) claims path c

-- ---- rows that are not formed

-- one of the rows is not over so many columns, or its normal form or its negation leaves `i128`; or one of them is not there
abbrev pub AreNotFormed : ℕ → Option (List Row) → Type 0
AreNotFormed n None = Unit {0}
AreNotFormed n (Some rows) = (row : Row) × IsAmong row rows × (IsRowOver n row → NormalFits row → ¬ CanBranch row)

-- what comes next at a question of a path is not formed: rows that have to stand, those of the branches of a read or an output, those of what is left of a case,
-- or those of a kill; or two calls have no branches in the order that is listed for them
pub data LacksNext (u : Unfolding) (left right : Flow) (claims : List Claim) : Path → Type 0 where
  target : (pairs : List (Seat × Seat)) (q : Path) (rows : Option (List Row)) → IsFollowed u left right claims pairs q → AreTargets (pairing_of u.pair) claims q rows → AreNotFormed q.conj.columns rows → LacksNext u left right claims q
  read : (pairs : List (Seat × Seat)) (q : Path) (side : Side) → IsFollowed u left right claims pairs q → GoesOn claims q → ReadsOn u side q → branches (pairing_of u.pair) Keep q ≡ None → LacksNext u left right claims q
  call : (pairs : List (Seat × Seat)) (q : Path) → IsFollowed u left right claims pairs q → GoesOn claims q → AreNoReaders u q → AreTwoCalls (pairing_of u.pair) q → branches (pairing_of u.pair) (u.order (positions_of (seats_of q))) q ≡ None → LacksNext u left right claims q
  rest : (side : Side) (pairs : List (Seat × Seat)) (q b : Path) (case : Case) (rest : Remainder) → IsFollowed u left right claims pairs q → GoesOn claims q → IsBranchOf u (flow_on left right side) side q case b → IsAmong rest case.pieces → at_rest (params_of u) b rest.conj ≡ None → LacksNext u left right claims b
  kill : (side : Side) (pairs : List (Seat × Seat)) (q b d : Path) (case : Case) (number row : ℕ) (kill : Conj × Kill) → IsFollowed u left right claims pairs q → GoesOn claims q → IsBranchOf u (flow_on left right side) side q case b → IsCut (params_of u) case b number row d
      → slice_get case.kills number ≡ Some kill → AreNotFormed d.conj.columns (kill_on (params_of u) d kill.0) → LacksNext u left right claims d
