-- What a pair of positions asks for, and what the kills of a case cut away.
use Rattle.std.specs.Prelude.{◌≡◌, ℕ, true, List, [], ◌∷◌, ◌++◌, map, Some, Vec, slice_get}
use Rattle.std.specs.declared.alloc.Global.{Global}
use Rattle.std.specs.List.{AllByRecursion}
use Rattle.ac_forms.specs.Renaming.{rows_renaming}
use Rattle.ac_forms.specs.declared.conj.Conj.{Conj}
use Rattle.ac_forms.specs.declared.row.Row.{Row}
use Rattle.ac_syntax.specs.declared.tree.Order.{Order}
use Rattle.ac_syntax.specs.declared.tree.Order.TheVariants.{Keep}
use Rattle.ac_syntax.specs.declared.tree.Position.{Position}
use Rattle.ac_claims_paths.specs.PathColumns.{base, columns_of}
use Rattle.ac_claims_paths.specs.WellFormedPaths.{AllFormed, HasModuli, IsFormed}
use Rattle.ac_claims_paths.specs.PathSteps.{Pairing, branches, model_of}
use Rattle.ac_claims_paths.specs.CopyKills.{case_columns, case_width}
use Rattle.ac_forms.specs.ListMembers.{IsAmong}
use Rattle.ac_claims_paths.specs.declared.path.Assumed.{Assumed}
use Rattle.ac_claims_paths.specs.declared.path.Path.{Path}
use Rattle.ac_claims_paths.specs.declared.path.Side.{Side}
use Rattle.ac_claims.specs.ProofEnds.{same_position}
use Rattle.ac_claims.specs.declared.types.Claim.{Claim}
use Rattle.ac_claims.specs.declared.types.Kill.{Kill}
use Rattle.ac_claims.specs.declared.types.Plan.{Plan}
use Rattle.ac_claims.specs.declared.types.PlanNext.{Go}
use Rattle.ac_claims.specs.declared.types.PlanNext.TheVariants.{Killed}
use Rattle.ac_flow.specs.declared.types.Case.{Case}
use Rattle.ac_flow.specs.declared.types.ReadFlow.{ReadFlow}
use Rattle.ac_flow.specs.KillAcceptance.{on_path}
use Rattle.ac_claims_plans.specs.declared.branching.Part.{Part}
use Rattle.ac_claims_plans.specs.declared.embedding.Embedding.{Embedding}
use Rattle.ac_claims_plans.specs.QuestionPaths.{ArePlansFor, IsPlanFor}
use Rattle.ac_claims_plans.specs.QuestionPlans.{question_on, AreSidePlans}
use Rattle.ac_unfold.specs.CaseBranches.{AssumesCase}
use Rattle.ac_unfold_plans.specs.PlanEnds.{IsEnd}
use Rattle.ac_unfold.specs.PlanResults.{judge_of, IsCaseAt, IsEndFor, IsGiven}
use Rattle.ac_unfold.specs.EndRows.{Cuts, StopsBeside}
use Rattle.ac_unfold.specs.SearchPlanStops.{EndsAnywhere, IsUnclaimed, StopsIn, TakesIn}
use Rattle.ac_unfold.specs.declared.course.Course.{Course}
use Rattle.ac_unfold.specs.declared.ends.Search.{Search}
use Rattle.ac_unfold.specs.declared.kinds.Next.{Next}
use Rattle.ac_unfold.specs.declared.node.Node.{Node}
use Rattle.ac_unfold.specs.declared.kinds.Next.TheVariants as next

-- ---- claims

-- the claim with the number is of these positions
pub record IsNumbered (claims : List Claim) (left right : Position) (number : ℕ) : Type 0 where
  pub claim : Claim
  pub is : slice_get claims number ≡ Some claim
  pub left_is : same_position left claim.left ≡ true
  pub right_is : same_position right claim.right ≡ true

-- the path is below a step, at the positions of the claim with the number
pub record IsClaimBehind (search : Search) (q : Path) (number : ℕ) : Type 0 where
  pub gone : q.gone ≡ true
  pub at : IsNumbered search.claims.now q.left.position q.right.position number

-- and at those of the tabled claim with the number
pub record IsTabledBehind (search : Search) (q : Path) (number : ℕ) : Type 0 where
  pub gone : q.gone ≡ true
  pub at : IsNumbered search.tabled.now q.left.position q.right.position number

-- the columns of a question in which the rows of a claim stand at its pair: those of the parameters and of both positions
abbrev pub columns_there : Search → Path → List ℕ
columns_there search q = base (judge_of search).params ++ (columns_of q.left ++ columns_of q.right)

-- ---- kinds

-- in which order a step is taken, and what rows have to stand at a match
abbrev pub IsNext : Search → Path → Next → Type 0
IsNext search q (next.Read side) = TakesIn search q Keep
IsNext search q (next.Calls order) = TakesIn search q order
IsNext search q (next.Match rows end) = IsUnclaimed search q → IsEndFor search q rows end
IsNext search q next.Mismatch = Unit {0}

-- ---- cases

-- a case of the flow of a side is what the question assumes
pub record IsAssumed (search : Search) (side : Side) (flow : ReadFlow) (case : Case) (q : Path) : Type 0 where
  pub among : IsAmong case flow.cases
  pub assumed : Assumed
  pub is : q.last ≡ Some assumed
  pub assumes : AssumesCase (judge_of search).params (model_of (judge_of search) side) side flow case assumed

-- a step with plans for its branches
pub record IsStep (order : Order) (cases : List Plan) (t : Plan) : Type 0 where
  pub follows : (g : Pairing) → HasModuli g.left → HasModuli g.right → (cs : List Claim) (s : Embedding) (q : Path) (bs : List Path) → IsFormed g.params q → branches g order q ≡ Some bs → ArePlansFor g cs s q bs cases → IsPlanFor g cs s q t
  pub plans : Vec Plan Global
  pub plans_are : plans.items ≡ cases
  pub next_is : t.next ≡ Go order plans

-- ---- kills

-- a kill of the case, with its rows over the columns of the question
pub record IsKillThere (search : Search) (q : Path) (case : Case) (kill : Kill) (rows : List Row) : Type 0 where
  pub whole : Conj × Kill
  pub among : IsAmong whole case.kills
  pub is : whole.1 ≡ kill
  pub moved : (a : Assumed) → q.last ≡ Some a → Some rows ≡ rows_renaming (case_columns (judge_of search).params a) whole.0.rows

-- one row more stands
pub record CutsMore (search : Search) (case : Case) (course : Course) (row : Row) (next : Course) : Type 0 where
  pub cuts : (cs : List Claim) (s : Embedding) (q : Path) (rows : List Row) → IsGiven search cs → IsCaseAt (judge_of search) q case → Cuts search cs s q course rows → Cuts search cs s q next (rows ++ row ∷ [])
  pub beside : (q : Path) → StopsBeside search q course → StopsBeside search q next

-- a plan for each of some sides of the question, where it assumes the case, each of which stops
pub record AreMadeOn (search : Search) (case : Case) (s : Embedding) (q : Path) (parts : List Part) (plans : List Plan) : Type 0 where
  pub sides : (cs : List Claim) → IsGiven search cs → IsCaseAt (judge_of search) q case → AllFormed (judge_of search).params (map (question_on q) parts) → AreSidePlans (judge_of search) cs s q parts plans
  pub stop : AllByRecursion (λ (t : Plan). StopsIn search q t.next) plans

-- the end at the kill, with its choices behind the columns of the node's path, which stops anywhere and uses whatever claims are tabled
pub record IsKilled (search : Search) (node : Node) (kill : Kill) (t : Plan) : Type 0 where
  pub ends : (a : Assumed) → node.question.last ≡ Some a → IsEnd (Killed (on_path (case_width (judge_of search).params a) node.embedding.next_column kill)) t
  pub stops : EndsAnywhere t.next
