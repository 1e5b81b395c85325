-- Rows that have to stand at the end of a path, one after the other.
use Rattle.std.specs.Prelude.{◌≡◌, true, List, [], ◌∷◌, ◌++◌, Option, Some, IfSome}
use Rattle.std.specs.List.{AllByRecursion}
use Rattle.ac_forms.specs.Standing.{stands}
use Rattle.ac_forms.specs.declared.row.Row.{Row}
use Rattle.ac_claims_paths.specs.WellFormedPaths.{IsFormed}
use Rattle.ac_claims_paths.specs.PathSteps.{Pairing, at_rows}
use Rattle.ac_claims_paths.specs.declared.path.Path.{Path}
use Rattle.ac_claims.specs.declared.types.Claim.{Claim}
use Rattle.ac_claims.specs.declared.types.Plan.{Plan}
use Rattle.ac_claims_plans.specs.declared.branching.Part.{Part}
use Rattle.ac_claims_plans.specs.declared.embedding.Embedding.{Embedding}
use Rattle.ac_claims_plans.specs.QuestionCover.{Covers}
use Rattle.ac_claims_plans.specs.QuestionPaths.{IsPlanFor}
use Rattle.ac_claims_plans.specs.QuestionPlans.{AreSidePlans}
use Rattle.ac_unfold.specs.OpenBranches.{IsBehind}
use Rattle.ac_unfold.specs.PlanResults.{judge_of, AreStanding, IsGiven, IsMade}
use Rattle.ac_unfold.specs.KillTraversal.{IsGrown}
use Rattle.ac_unfold.specs.SearchPlanStops.{EndsAnywhere, StopsIn}
use Rattle.ac_unfold.specs.declared.course.Course.{Course}
use Rattle.ac_unfold.specs.declared.course.Open.{Open}
use Rattle.ac_unfold.specs.declared.ends.Closed.{Closed}
use Rattle.ac_unfold.specs.declared.ends.Closed.TheVariants as closed
use Rattle.ac_unfold.specs.declared.ends.Search.{Search}
use Rattle.ac_unfold.specs.declared.ends.Stood.{Stood}
use Rattle.ac_unfold.specs.declared.ends.Stood.TheVariants as stood
use Rattle.ac_unfold.specs.declared.node.Node.{Node}

-- behind the branches of a course a plan for one question is a plan for another one
abbrev pub Leads : Pairing → List Claim → Embedding → Path → Course → Embedding → Path → Type 0
Leads g cs s q course z v = (end t : Plan) → IsPlanFor g cs z v end → IsBehind course.branches.items end t → IsPlanFor g cs s q t

-- the course has come to the question, with further rows and columns, and the plans beside it stop there
pub record StopsBeside (search : Search) (q : Path) (course : Course) : Type 0 where
  pub within : IsGrown q course.node.question
  pub outside : AllByRecursion (λ (b : Open). AllByRecursion (λ (t : Plan). StopsIn search q t.next) b.outside.items) course.branches.items

-- ---- rows that stand on the path

-- a course from q, whose node keeps its question: the path has a question with the rows that were branched on too, among which
-- these stand
pub record Keeps (search : Search) (cs : List Claim) (s : Embedding) (q : Path) (course : Course) (rows : List Row) : Type 0 where
  pub placed : Embedding
  pub on_path : Path
  pub leads : Leads (judge_of search) cs s q course placed on_path
  pub same : course.node.question ≡ q
  pub covers : Covers course.node.embedding course.node.question placed on_path
  pub more : (r : Row) → stands course.node.question.conj.rows r ≡ true → stands on_path.conj.rows r ≡ true
  pub formed : IsFormed (judge_of search).params on_path
  pub standing : AreStanding on_path.conj rows

-- a plan at the end of the course is one for the question that the course came from, which stops
pub record IsEndOf (search : Search) (course : Course) (t : Plan) : Type 0 where
  pub plan : (cs : List Claim) (s : Embedding) (q : Path) (rows : List Row) → IsGiven search cs → Keeps search cs s q course rows → IsPlanFor (judge_of search) cs s q t
  pub stops : (q : Path) → StopsBeside search q course → StopsIn search q t.next

-- one row more stands
pub record KeepsMore (search : Search) (course : Course) (row : Row) (next : Course) : Type 0 where
  pub keeps : (cs : List Claim) (s : Embedding) (q : Path) (rows : List Row) → IsGiven search cs → Keeps search cs s q course rows → Keeps search cs s q next (rows ++ row ∷ [])
  pub beside : (q : Path) → StopsBeside search q course → StopsBeside search q next

-- so it is, or the course has ended
abbrev pub IsStood : Search → Course → Row → Stood → Type 0
IsStood search course row (stood.On next) = KeepsMore search course row next
IsStood search course row (stood.Ended o) = IfSome o (IsEndOf search course)

-- the course from a node to where these rows stand
pub record AreKept (search : Search) (node : Node) (course : Course) (rows : List Row) : Type 0 where
  pub keeps : (cs : List Claim) → IsGiven search cs → IsFormed (judge_of search).params node.question → Keeps search cs node.embedding node.question course rows
  pub beside : StopsBeside search node.question course

abbrev pub AreStood : Search → Node → List Row → Stood → Type 0
AreStood search node rows (stood.On course) = AreKept search node course rows
AreStood search node rows (stood.Ended o) = IfSome o (IsMade search node.embedding node.question)

-- the end, behind the branches of the course
pub record IsEndedPlan (course : Course) (end : Option Plan) (t : Plan) : Type 0 where
  pub last : Plan
  pub is : end ≡ Some last
  pub behind : IsBehind course.branches.items last t

-- a plan for each of some sides, where plans are made, each of which stops anywhere and uses whatever claims are tabled
pub record AreRefutedOn (search : Search) (s : Embedding) (q : Path) (parts : List Part) (plans : List Plan) : Type 0 where
  pub sides : search.making ≡ true → (g : Pairing) (cs : List Claim) → AreSidePlans g cs s q parts plans
  pub stop : search.making ≡ true → AllByRecursion (λ (t : Plan). EndsAnywhere t.next) plans

abbrev pub IsClosed : Search → Node → List Part → Closed → Type 0
IsClosed search node parts closed.Broken = Unit {0}
IsClosed search node parts (closed.Refuted plans) = AreRefutedOn search node.embedding node.question parts plans.items

-- ---- rows that the question has from then on

-- a course from q, whose node has the rows that were branched on; these rows stand there
pub record Cuts (search : Search) (cs : List Claim) (s : Embedding) (q : Path) (course : Course) (rows : List Row) : Type 0 where
  pub leads : Leads (judge_of search) cs s q course course.node.embedding course.node.question
  pub positions : course.node.question ≡ at_rows q course.node.question.conj
  pub formed : IsFormed (judge_of search).params course.node.question
  pub standing : AreStanding course.node.question.conj rows
