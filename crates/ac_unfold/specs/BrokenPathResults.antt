-- What the functions of an unfolding promise of the broken paths that they add.
use Rattle.std.specs.Prelude.{◌≡◌, ◌⊎◌, ◌≤◌, ◌++◌, ℕ, false, true, List, [], ◌∷◌, ℤ, length, Some, None}
use Rattle.std.specs.List.{AllByRecursion}
use Rattle.ac_forms.specs.Affine.{Affine}
use Rattle.ac_forms.specs.Rows.{Holds, Meets, IsRowOver}
use Rattle.ac_forms.specs.declared.conj.Conj.{Conj}
use Rattle.ac_forms.specs.declared.row.Row.{Row}
use Rattle.ac_forms.specs.declared.row.Row.TheVariants.{Eq}
use Rattle.ac_syntax.specs.declared.tree.Position.{Position}
use Rattle.ac_omega_steps.specs.IntegerPoints.{IsPoint}
use Rattle.ac_claims_paths.specs.PathSteps.{Pairing}
use Rattle.ac_forms.specs.ListMembers.{IsAmong}
use Rattle.ac_claims_paths.specs.ModelPositions.{CallAt, call_at, cell_read, number_at}
use Rattle.ac_claims_paths.specs.declared.path.Path.{Path}
use Rattle.ac_claims_paths.specs.declared.path.Seat.{Seat}
use Rattle.ac_claims_paths.specs.declared.path.Side.{Side}
use Rattle.ac_widen.specs.declared.derivation.Entry.{Entry}
use Rattle.ac_claims.specs.declared.types.Claim.{Claim}
use Rattle.ac_flow.specs.declared.types.Case.{Case}
use Rattle.ac_claims_plans.specs.BranchSides.{side_of}
use Rattle.ac_claims_plans.specs.declared.branching.Part.{Part}
use Rattle.ac_graph.specs.PairMoves.{pairing_of}
use Rattle.ac_graph.specs.GraphMeaning.{HaveFlows}
use Rattle.ac_unfold_plans.specs.ArgumentOrders.{order_of}
use Rattle.ac_widen_programs.specs.PairPathEnds.{entries_at, MatchesNothing}
use Rattle.ac_widen_programs.specs.PairPaths.{Unfolding, positions_of, seats_of}
use Rattle.ac_widen_programs.specs.PairPathSteps.{flow_on, AreNoReaders, IsBranchOf, IsReached, ReadsOn}
use Rattle.ac_widen_programs.specs.BrokenPaths.{HasNoClaim, IsBroken}
use Rattle.ac_unfold.specs.UnfoldEnds.{IsWalked}
use Rattle.ac_unfold.specs.PlanResults.{judge_of}
use Rattle.ac_unfold.specs.UnfoldPaths.{BrokenPathsOf}
use Rattle.ac_unfold.specs.UnfoldQuestions.{IsBesideRow}
use Rattle.ac_unfold.specs.FoundPaths.{IsFoundAt}
use Rattle.ac_unfold.specs.declared.decide.Answer.{Answer}
use Rattle.ac_unfold.specs.declared.decide.Answer.TheVariants as answer
use Rattle.ac_unfold.specs.declared.decide.Opened.{Opened}
use Rattle.ac_unfold.specs.declared.decide.Opened.TheVariants as opened
use Rattle.ac_unfold.specs.declared.decide.Wanted.{Wanted}
use Rattle.ac_unfold.specs.declared.decide.Wanted.TheVariants.{Standing, Absurd, Wide}
use Rattle.ac_unfold.specs.declared.course.Course.{Course}
use Rattle.ac_unfold.specs.declared.ends.Search.{Search}
use Rattle.ac_unfold.specs.declared.ends.Stood.{Stood}
use Rattle.ac_unfold.specs.declared.ends.Stood.TheVariants as stood
use Rattle.ac_unfold.specs.declared.kinds.Next.{Next}
use Rattle.ac_unfold.specs.declared.kinds.Next.TheVariants as next
use Rattle.ac_unfold.specs.declared.node.Node.{Node}

-- ---- what is added

-- the second is the first one with further broken paths, each of which is of this kind, and further ends, each of that kind
pub record Adds (Kind Ends : List Entry → Type 0) (before after : BrokenPathsOf) : Type 0 where
  pub more : List (List Entry)
  pub is : after.paths ≡ before.paths ++ more
  pub all : AllByRecursion Kind more
  pub ends : List (List Entry)
  pub ended_is : after.ended ≡ before.ended ++ ends
  pub all_ends : AllByRecursion Ends ends

-- no path is of this kind
abbrev pub IsNone : List Entry → Type 0
IsNone es = ⊥

-- the entries of a pair path at a point of the rows
pub record IsPathAt (params : ℕ) (pair_path : List (Seat × Seat)) (c : Conj) (es : List Entry) : Type 0 where
  pub point : List ℤ
  pub there : IsPoint c point
  pub are : es ≡ entries_at params point pair_path

-- or at one of a side of them
pub record IsPathBeside (params : ℕ) (pair_path : List (Seat × Seat)) (c : Conj) (parts : List Part) (es : List Entry) : Type 0 where
  pub part : Part
  pub among : IsAmong part parts
  pub at : IsPathAt params pair_path (side_of c part) es

-- a row over the columns fails at the point; if it is an equality, the point has a number for each of them and no more
pub record Fails (columns : ℕ) (r : Row) (p : List ℤ) : Type 0 where
  pub over : IsRowOver columns r
  pub fails : ¬ (Holds r p)
  pub exact : (f : Affine) → r ≡ Eq f → length p ≡ columns

-- or where one of these fails: at a point of the rows, or beside them where it does not hold
pub record IsPathBreaking (params : ℕ) (pair_path : List (Seat × Seat)) (c : Conj) (rows : List Row) (es : List Entry) : Type 0 where
  pub point : List ℤ
  pub long : c.columns ≤ length point
  pub meets : Meets c.rows point
  pub row : Row
  pub among : IsAmong row rows
  pub fails : Fails c.columns row point
  pub asked : Conj
  pub asked_is : (asked ≡ c) ⊎ IsBesideRow c rows asked
  pub there : IsPoint asked point
  pub are : es ≡ entries_at params point pair_path

-- ---- questions

abbrev pub IsPointIn : Conj → Answer → Type 0
IsPointIn c (answer.Empty o) = Unit {0}
IsPointIn c (answer.Point p) = IsPoint c p.items

abbrev pub KeepsPairPath : Node → Opened → Type 0
KeepsPairPath n (opened.Empty o) = Unit {0}
KeepsPairPath n (opened.On next) = next.pair_path ≡ n.pair_path

abbrev pub IsUnmet : ℕ → Row → Wanted → Type 0
IsUnmet columns r Standing = Unit {0}
IsUnmet columns r Absurd = IsRowOver columns r × ((p : List ℤ) → ¬ (Holds r p))
IsUnmet columns r Wide = Unit {0}

abbrev pub KeepsNode : Course → Stood → Type 0
KeepsNode course (stood.On next) = (next.node.question ≡ course.node.question) × (next.node.pair_path ≡ course.node.pair_path)
KeepsNode course (stood.Ended o) = Unit {0}

-- ---- the unfoldings of a search

-- the steps of the programs under the order that is listed, from the pairs of some claim on
pub record IsOf (search : Search) (u : Unfolding) : Type 0 where
  pub programs : pairing_of u.pair ≡ judge_of search
  pub flows : HaveFlows u.pair search.program_flows.now.left_flow.now search.program_flows.now.right_flow.now
  pub orders : (positions : Position × Position) → u.order positions ≡ order_of search.order.now positions

abbrev pub Reached : Search → Unfolding → List (Seat × Seat) → Path → Type 0
Reached search u pair_path q = IsReached u search.program_flows.now.left_flow.now search.program_flows.now.right_flow.now pair_path q

-- the pair path of a pair behind a step, with no claim between it and the first one
pub record IsBehindStep (claims : List Claim) (pair_path : List (Seat × Seat)) (q : Path) : Type 0 where
  pub first : Seat × Seat
  pub between : List (Seat × Seat)
  pub is : pair_path ≡ first ∷ (between ++ seats_of q ∷ [])
  pub free : AllByRecursion (HasNoClaim claims) between

-- the unfolding begins with this claim
abbrev pub IsFrom : Claim → Unfolding → Type 0
IsFrom c u = u.claim ≡ c

-- the unfolding comes to the question by the pair path, and no claim stands on the way
pub record IsAt (search : Search) (pair_path : List (Seat × Seat)) (q : Path) (u : Unfolding) : Type 0 where
  pub reached : Reached search u pair_path q
  pub begins : q.gone ≡ false → pair_path ≡ seats_of q ∷ []
  pub behind : q.gone ≡ true → IsBehindStep search.claims.now pair_path q

-- nor at its end
pub record IsPast (search : Search) (pair_path : List (Seat × Seat)) (q : Path) (u : Unfolding) : Type 0 where
  pub reached : Reached search u pair_path q
  pub first : Seat × Seat
  pub rest : List (Seat × Seat)
  pub is : pair_path ≡ first ∷ rest
  pub free : AllByRecursion (HasNoClaim search.claims.now) rest

-- the question is the branch of a case of a read or an output to which it comes
pub record IsInCase (search : Search) (case : Case) (pair_path : List (Seat × Seat)) (b : Path) (u : Unfolding) : Type 0 where
  pub before : List (Seat × Seat)
  pub question : Path
  pub past : IsPast search before question u
  pub side : Side
  pub branch : IsBranchOf u (flow_on search.program_flows.now.left_flow.now search.program_flows.now.right_flow.now side) side question case b
  pub pair_path_is : pair_path ≡ before ++ seats_of b ∷ []
  pub gone : b.gone ≡ true

-- the path is found by the unfolding
abbrev pub IsFoundIn : Search → Unfolding → List Entry → Type 0
IsFoundIn search u = IsFoundAt u search.program_flows.now.left_flow.now search.program_flows.now.right_flow.now search.claims.now

-- the paths are broken, and found so; the others lead to ends
pub record IsSound (search : Search) (u : Unfolding) (found : BrokenPathsOf) : Type 0 where
  pub broken : AllByRecursion (IsBroken u search.claims.now) found.paths
  pub asked : AllByRecursion (IsFoundIn search u) found.paths
  pub walked : AllByRecursion (IsWalked u search.claims.now) found.ended

-- no path is lost, and what is found stays sound in each unfolding of the search that is at this place
unfoldable pub AddsBroken : Search → (Unfolding → Type 0) → BrokenPathsOf → BrokenPathsOf → Type 0
AddsBroken search At before after = (length before.paths ≤ length after.paths) × ((u : Unfolding) → IsOf search u → At u → IsSound search u before → IsSound search u after)

-- ---- kinds

-- no read or output stands on either side, and no two calls of one symbol with as many arguments
pub record IsLeaf (g : Pairing) (q : Path) : Type 0 where
  pub left : cell_read g.left q.left.position ≡ None
  pub right : cell_read g.right q.right.position ≡ None
  pub calls : (c d : CallAt) → call_at g.left q.left.position ≡ Some c → call_at g.right q.right.position ≡ Some d → ¬ ((c.symbol ≡ d.symbol) × (length c.args ≡ length d.args))

-- nor two numbers
pub record IsNoNumber (g : Pairing) (q : Path) : Type 0 where
  pub leaf : IsLeaf g q
  pub numbers : (f h : Affine) → number_at g.left q.left.position ≡ Some f → ¬ (number_at g.right q.right.position ≡ Some h)

-- what a pair asks for is so in each unfolding of the search: where one of the rows fails the pair matches nothing
abbrev pub IsKind : Search → Path → Next → Unfolding → Type 0
IsKind search q (next.Read side) u = ReadsOn u side q
IsKind search q (next.Calls order) u = AreNoReaders u q × (u.order (positions_of (seats_of q)) ≡ order)
IsKind search q (next.Match rows end) u = (p : List ℤ) (r : Row) → IsAmong r rows → Fails q.conj.columns r p → MatchesNothing u q p
IsKind search q next.Mismatch u = (p : List ℤ) → MatchesNothing u q p

unfoldable pub IsKindThere : Search → Path → Next → Type 0
IsKindThere search q kind = (u : Unfolding) → IsOf search u → IsKind search q kind u
