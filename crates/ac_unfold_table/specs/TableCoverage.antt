-- What is tabled behind a start.
use Rattle.std.specs.Prelude.{◌≡◌, ◌⊎◌, ℕ, ℤ, List, Some}
use Rattle.ac_syntax.specs.declared.tree.Order.{Order}
use Rattle.ac_syntax.specs.declared.tree.Position.{Position}
use Rattle.ac_syntax.specs.declared.tree.Site.{Site}
use Rattle.ac_forms.specs.ListMembers.{IsAmong}
use Rattle.ac_forms.specs.Rows.{Meets}
use Rattle.ac_omega_steps.specs.IntegerPoints.{IsPoint}
use Rattle.ac_claims_paths.specs.PathSteps.{Pairing}
use Rattle.ac_claims_paths.specs.ModelPositions.{CallAt, call_at}
use Rattle.ac_claims_paths.specs.declared.path.Path.{Path}
use Rattle.ac_claims.specs.CheckKnowledge.{IsClaimMade}
use Rattle.ac_claims.specs.declared.types.Claim.{Claim}
use Rattle.ac_widen.specs.declared.derivation.Entry.{Entry}
use Rattle.ac_unfold_plans.specs.PlanStops.{positions_at, claim_positions}
use Rattle.ac_widen_programs.specs.BrokenPaths.{IsBroken}
use Rattle.ac_widen_programs.specs.PairPaths.{Unfolding, point_of, seats_of}
use Rattle.ac_unfold.specs.UnfoldCauses.{StopsUnfolding}
use Rattle.ac_unfold.specs.RecoverableStops.{IsStop}
use Rattle.ac_unfold.specs.Unfoldings.{IsUnfoldingOf}
use Rattle.ac_unfold.specs.declared.types.ProgramFlows.{ProgramFlows}
use Rattle.ac_unfold.specs.declared.types.UnfoldStop.{UnfoldStop}
use Rattle.ac_unfold_table.specs.StepQuestions.{judge, IsStepBehind}
use Rattle.ac_unfold_table.specs.QuestionRelations.{HasNoRelation, IsRelationOf}
use Rattle.ac_unfold_table.specs.Tables.{TableOf}

-- ---- relations behind a start

-- one of the claims is of the pair
abbrev pub HasClaim : List Claim → Position × Position → Type 0
HasClaim claims positions = (d : Claim) × IsAmong d claims × (claim_positions d ≡ positions)

-- a relation is reached from the start: it is that of a question one step behind the start, or behind a relation that is reached whose pair has no claim
pub data IsReached (program_flows : ProgramFlows) (order : List (Site × Order)) (claims : List Claim) (start : Claim) : Claim → Type 0 where
  first : (q : Path) (r : Claim) → IsStepBehind program_flows order start q → IsRelationOf (judge program_flows).params q r → IsReached program_flows order claims start r
  next : (c : Claim) (q : Path) (r : Claim) → IsReached program_flows order claims start c → ¬ (HasClaim claims (claim_positions c)) → IsStepBehind program_flows order c q → IsRelationOf (judge program_flows).params q r → IsReached program_flows order claims start r

-- a relation fails: one of its positions is not there, or a row is not over the parameters and their coordinates; or, where it is unfolded against the claims, a path of it is broken, or there is a stop
pub data Fails (program_flows : ProgramFlows) (order : List (Site × Order)) (claims : List Claim) (r : Claim) : Type 0 where
  unfit : ¬ (IsClaimMade (judge program_flows) r) → Fails program_flows order claims r
  broken : (path : List Entry) → ((u : Unfolding) → IsUnfoldingOf program_flows r order u → IsBroken u claims path) → Fails program_flows order claims r
  stops : (stop : UnfoldStop) → IsStop stop → StopsUnfolding program_flows r claims order stop → Fails program_flows order claims r

-- the pairs behind a start are not gone through to the end: a relation that is reached fails
pub record IsHindered (program_flows : ProgramFlows) (order : List (Site × Order)) (claims : List Claim) (start : Claim) : Type 0 where
  pub relation : Claim
  pub reached : IsReached program_flows order claims start relation
  pub fails : Fails program_flows order claims relation

-- ---- what covers them

-- a claim is on the pair of the question, and each point of the question meets its rows
pub record CoversQuestion (params : ℕ) (c : Claim) (q : Path) : Type 0 where
  pub pair : claim_positions c ≡ positions_at q
  pub meets : (p : List ℤ) → IsPoint q.conj p → Meets c.rows (point_of params p (seats_of q))

-- a claim is on the pair of a relation, and each point of the relation meets its rows
pub record Covers (c r : Claim) : Type 0 where
  pub pair : claim_positions c ≡ claim_positions r
  pub meets : (x : List ℤ) → Meets r.rows x → Meets c.rows x

abbrev pub IsCovered : List Claim → Claim → Type 0
IsCovered known r = (c : Claim) × IsAmong c known × Covers c r

-- a question was tried: its pair has a claim of the table, a relation that was met or a tabled claim covers it, or the elimination does not give its relation
pub data IsTried (program_flows : ProgramFlows) (table : TableOf) (met : List Claim) (q : Path) : Type 0 where
  claimed : HasClaim table.claims (positions_at q) → IsTried program_flows table met q
  covered : (c : Claim) → IsAmong c met ⊎ IsAmong c table.tabled → CoversQuestion (judge program_flows).params c q → IsTried program_flows table met q
  unrelated : HasNoRelation program_flows.budget (judge program_flows).params q → IsTried program_flows table met q

-- so was each question one step behind a claim
abbrev pub AreTried : ProgramFlows → TableOf → List Claim → Claim → Type 0
AreTried program_flows table met c = (q : Path) → IsStepBehind program_flows table.order c q → IsTried program_flows table met q

-- two calls stand at the pair
pub record AreCalls (g : Pairing) (c : Claim) : Type 0 where
  pub left : CallAt
  pub left_is : call_at g.left c.left ≡ Some left
  pub right : CallAt
  pub right_is : call_at g.right c.right ≡ Some right

-- all behind a start was gone through: relations were met such that each question one step behind the start or one of them was tried, and each of them that stands at two calls
-- is covered by a tabled claim; and each was reached from the start
pub record IsThorough (program_flows : ProgramFlows) (table : TableOf) (start : Claim) : Type 0 where
  pub met : List Claim
  pub reached : (m : Claim) → IsAmong m met → IsReached program_flows table.order table.claims start m
  pub behind_start : AreTried program_flows table met start
  pub behind_met : (m : Claim) → IsAmong m met → AreTried program_flows table met m
  pub calls : (m : Claim) → IsAmong m met → AreCalls (judge program_flows) m → IsCovered table.tabled m
