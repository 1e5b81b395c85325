-- Where a start stands: no path of the unfolding from it is broken.
use Rattle.std.specs.Prelude.{◌≡◌, ◌<◌, ℕ, true, List, ℤ, length, Some, None, slice_get}
use Rattle.ac_forms.specs.ListMembers.{IsAmong}
use Rattle.ac_forms.specs.Rows.{Meets, IsWellMade}
use Rattle.ac_forms.specs.declared.conj.Conj.{Conj}
use Rattle.ac_forms.specs.declared.row.Row.{Row}
use Rattle.ac_omega_steps.specs.IntegerPoints.{IsPoint}
use Rattle.ac_syntax.specs.declared.tree.Order.TheVariants.{Keep}
use Rattle.ac_claims_paths.specs.PathSteps.{branches, seat_of}
use Rattle.ac_claims_paths.specs.declared.path.Path.{Path}
use Rattle.ac_claims_paths.specs.declared.path.Side.{Side}
use Rattle.ac_claims.specs.ProofFaults.{Domain, domain}
use Rattle.ac_claims.specs.RemainingPlans.{start_at}
use Rattle.ac_claims.specs.declared.types.Claim.{Claim}
use Rattle.ac_flow.specs.declared.types.Case.{Case}
use Rattle.ac_flow.specs.declared.types.Flow.{Flow}
use Rattle.ac_flow.specs.declared.types.ReadFlow.{ReadFlow}
use Rattle.ac_flow.specs.declared.types.Remainder.{Remainder}
use Rattle.ac_graph.specs.PairMoves.{pairing_of}
use Rattle.ac_widen_programs.specs.PairPaths.{Unfolding, params_of, point_of, seats_of}
use Rattle.ac_widen_programs.specs.PairPathSteps.{at_rest, flow_on, order_of, AreNoReaders, ReadsOn}
use Rattle.ac_unfold.specs.UnfoldQuestions.{AreTargets, AreTwoCalls, GoesOn}

-- ---- points

-- no point is in the conjunction
abbrev pub HasNoPoint : Conj → Type 0
HasNoPoint c = (p : List ℤ) → ¬ (IsPoint c p)

-- the rows hold at each of its points
abbrev pub AllHold : Conj → List Row → Type 0
AllHold c rows = (p : List ℤ) → IsPoint c p → Meets rows p

-- ---- ends

-- behind a step, one of the claims is of the pair of the question, and holds at the pair of each point
pub record IsHeld (u : Unfolding) (claims : List Claim) (q : Path) : Type 0 where
  pub gone : q.gone ≡ true
  pub claim : Claim
  pub among : IsAmong claim claims
  pub left_is : q.left.position ≡ claim.left
  pub right_is : q.right.position ≡ claim.right
  pub holds : (p : List ℤ) → IsPoint q.conj p → Meets claim.rows (point_of (params_of u) p (seats_of q))

-- the path goes on, and the pair matches at each point: two numbers are equal there, or two cells of one input are the same
pub record Matches (u : Unfolding) (claims : List Claim) (q : Path) : Type 0 where
  pub goes_on : GoesOn claims q
  pub rows : List Row
  pub are : AreTargets (pairing_of u.pair) claims q (Some rows)
  pub hold : AllHold q.conj rows

-- ---- reads and outputs

-- the case with the number is there, and all that is left of it is formed over its branch
pub record HasCase (params : ℕ) (read : ReadFlow) (number : ℕ) (b : Path) : Type 0 where
  pub case : Case
  pub is : slice_get read.cases number ≡ Some case
  pub formed : (rest : Remainder) → IsAmong rest case.pieces → ¬ (at_rest params b rest.conj ≡ None)

-- what is read at the question on this side, and the branches there, each with its case
pub record AreItsCases (u : Unfolding) (flow : Flow) (side : Side) (q : Path) (read : ReadFlow) (bs : List Path) : Type 0 where
  pub reads : ReadsOn u side q
  pub among : IsAmong read flow.reads
  pub position_is : read.position ≡ (seat_of q side).position
  pub are : branches (pairing_of u.pair) Keep q ≡ Some bs
  pub cases : (number : ℕ) (b : Path) → slice_get bs number ≡ Some b → HasCase (params_of u) read number b

-- one of the questions at what is left of a case, over the branch of the case
pub record IsLeftOf (params : ℕ) (read : ReadFlow) (bs : List Path) (d : Path) : Type 0 where
  pub number : ℕ
  pub branch : Path
  pub branch_is : slice_get bs number ≡ Some branch
  pub case : Case
  pub case_is : slice_get read.cases number ≡ Some case
  pub rest : Remainder
  pub among : IsAmong rest case.pieces
  pub is : at_rest params branch rest.conj ≡ Some d

-- ---- starts

-- a question stands: it has no point; or a claim holds at its pair, or the pair matches; or a step is taken from there, and each question that comes next stands: those
-- of the arguments of two calls in their order, or those at what is left of each case of a read or an output
pub data Stands (u : Unfolding) (left right : Flow) (claims : List Claim) : Path → Type 0 where
  empty : (q : Path) → HasNoPoint q.conj → Stands u left right claims q
  held : (q : Path) → IsHeld u claims q → Stands u left right claims q
  matches : (q : Path) → Matches u claims q → Stands u left right claims q
  calls : (q : Path) (bs : List Path) → GoesOn claims q → AreNoReaders u q → AreTwoCalls (pairing_of u.pair) q → branches (pairing_of u.pair) (order_of u q) q ≡ Some bs → ((b : Path) → IsAmong b bs → Stands u left right claims b)
      → Stands u left right claims q
  reads : (side : Side) (q : Path) (read : ReadFlow) (bs : List Path) → GoesOn claims q → AreItsCases u (flow_on left right side) side q read bs → ((d : Path) → IsLeftOf (params_of u) read bs d → Stands u left right claims d) → Stands u left right claims q

-- so does the start at two pieces, where it is formed and well made
pub record StandsAtPieces (u : Unfolding) (left right : Flow) (claims : List Claim) (i k : ℕ) : Type 0 where
  pub question : Path
  pub is : start_at (pairing_of u.pair) u.claim i k ≡ Some question
  pub made : IsWellMade question.conj
  pub stands : Stands u left right claims question

-- and a start, at each two pieces of its positions
pub record StartStands (u : Unfolding) (left right : Flow) (claims : List Claim) : Type 0 where
  pub left_pieces : Domain
  pub left_is : domain (pairing_of u.pair).left u.claim.left ≡ Some left_pieces
  pub right_pieces : Domain
  pub right_is : domain (pairing_of u.pair).right u.claim.right ≡ Some right_pieces
  pub stands : (i k : ℕ) → i < length left_pieces.pieces → k < length right_pieces.pieces → StandsAtPieces u left right claims i k
