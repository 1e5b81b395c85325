-- Why an unfolding stops.
use Rattle.std.specs.Prelude.{◌≡◌, ◌⊎◌, ℕ, List}
use Rattle.ac_forms.specs.declared.conj.Conj.{Conj}
use Rattle.ac_syntax.specs.declared.tree.Order.{Order}
use Rattle.ac_syntax.specs.declared.tree.Site.{Site}
use Rattle.ac_omega_certify.specs.declared.strategy.Strategy.TheVariants.{Full, Economical}
use Rattle.ac_omega.specs.Decisions.{walk_of, IsLarge, IsSpent, IsWide}
use Rattle.ac_omega.specs.Either.{StopsDeciding}
use Rattle.ac_omega.specs.declared.pieces.Stop.{Stop}
use Rattle.ac_omega.specs.declared.pieces.Stop.TheVariants as decision
use Rattle.ac_claims_paths.specs.declared.path.Path.{Path}
use Rattle.ac_claims.specs.declared.types.Claim.{Claim}
use Rattle.ac_flow.specs.declared.types.Flow.{Flow}
use Rattle.ac_widen_programs.specs.PairPaths.{Unfolding}
use Rattle.ac_unfold.specs.UnfoldQuestions.{IsAsked, LacksNext}
use Rattle.ac_unfold.specs.UnfoldEnds.{AreTooMany}
use Rattle.ac_unfold.specs.Unfoldings.{IsUnfoldingOf}
use Rattle.ac_unfold.specs.declared.types.ProgramFlows.{ProgramFlows}
use Rattle.ac_unfold.specs.declared.types.UnfoldStop.{UnfoldStop}
use Rattle.ac_unfold.specs.declared.types.UnfoldStop.TheVariants.{Overflow, Spent, Paths, Memory}

-- ---- questions

-- the economical walk does not decide the question, and the full one costs more than the budget, this much where it is given up
unfoldable pub IsTooCostly : ℕ → ℕ → Conj → Type 0
IsTooCostly budget cost q = StopsDeciding q (walk_of Economical budget q) × IsSpent cost (walk_of Full budget q)

-- the economical walk does not decide the question, and on the full one a number leaves `i128`, or its greatest numbers are too large for a certificate
unfoldable pub IsTooWide : ℕ → Conj → Type 0
IsTooWide budget q = StopsDeciding q (walk_of Economical budget q) × (IsWide q (walk_of Full budget q) ⊎ IsLarge (walk_of Full budget q))

-- ---- stops

-- the rows of a question of which one that comes next is not formed
pub record LacksRow (u : Unfolding) (left right : Flow) (claims : List Claim) (c : Conj) : Type 0 where
  pub path : Path
  pub is : c ≡ path.conj
  pub lacks : LacksNext u left right claims path

-- an unfolding against claims stops so: it asks a question that is too wide, or a row that comes next at a question is not formed; or it asks one that is
-- too costly; or it reaches the ends of too many paths
abbrev pub IsStopOf : Unfolding → Flow → Flow → List Claim → ℕ → UnfoldStop → Type 0
IsStopOf u left right claims budget (Overflow question) = (IsAsked u left right claims question × IsTooWide budget question) ⊎ LacksRow u left right claims question
IsStopOf u left right claims budget (Spent question cost) = IsAsked u left right claims question × IsTooCostly budget cost question
IsStopOf u left right claims budget (Paths found) = AreTooMany u claims found
IsStopOf u left right claims budget (Memory want) = Unit {0}

-- so it does from the start on, under the order that is listed
abbrev pub StopsUnfolding : ProgramFlows → Claim → List Claim → List (Site × Order) → UnfoldStop → Type 0
StopsUnfolding program_flows start claims order stop = (u : Unfolding) → IsUnfoldingOf program_flows start order u → IsStopOf u program_flows.left_flow.now program_flows.right_flow.now claims program_flows.budget stop

-- the stop of a decision, as one of an unfolding
abbrev pub stop_of : Stop → UnfoldStop
stop_of (decision.Overflow question) = Overflow question
stop_of (decision.Spent question cost) = Spent question cost
stop_of (decision.Memory want) = Memory want
