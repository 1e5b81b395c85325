-- The tasks of an unfolding: where each stands, which plans come of it, what has to stand with it, and by which tasks it goes on.
use Rattle.std.specs.Prelude.{◌≡◌, ◌+◌, ◌<◌, ◌++◌, ◌∷◌, ℕ, true, false, List, [], length, take, Option, Some, None, Result, Ok, Err, Vec, is_some, slice_get}
use Rattle.std.specs.declared.alloc.Global.{Global}
use Rattle.std.specs.List.{AllByRecursion}
use Rattle.ac_forms.specs.declared.row.Row.{Row}
use Rattle.ac_syntax.specs.declared.tree.Order.{Order}
use Rattle.ac_claims_paths.specs.BranchPaths.{onto}
use Rattle.ac_claims_paths.specs.declared.path.Branch.{Branch}
use Rattle.ac_claims_paths.specs.declared.path.Path.{Path}
use Rattle.ac_claims_paths.specs.declared.path.Seat.{Seat}
use Rattle.ac_claims_paths.specs.declared.path.Side.{Side}
use Rattle.ac_claims.specs.declared.types.Plan.{Plan}
use Rattle.ac_flow.specs.declared.types.Case.{Case}
use Rattle.ac_flow.specs.declared.types.ReadFlow.{ReadFlow}
use Rattle.ac_flow.specs.declared.types.Remainder.{Remainder}
use Rattle.ac_claims_plans.specs.Embeddings.{grown}
use Rattle.ac_claims_plans.specs.BranchSides.{on_side, BranchServesAnywhere}
use Rattle.ac_claims_plans.specs.PlanAcceptance.{BranchesTo}
use Rattle.ac_claims_plans.specs.QuestionPlans.{question_on}
use Rattle.ac_claims_plans.specs.declared.branching.Part.{Part}
use Rattle.ac_claims_plans.specs.declared.branching.Parts.{Parts}
use Rattle.ac_claims_plans.specs.declared.embedding.Embedding.{Embedding}
use Rattle.ac_widen_programs.specs.PairPaths.{Unfolding}
use Rattle.ac_widen_programs.specs.PairPathSteps.{at_rest}
use Rattle.ac_unfold.specs.KillCuts.{IsAssumed, IsKilled, IsKillThere, IsStep}
use Rattle.ac_unfold.specs.KillTraversal.{AreKillRows, IsOutsideKills}
use Rattle.ac_unfold.specs.PlanResults.{judge_of, AreStanding, IsMade, IsMadeIn}
use Rattle.ac_unfold.specs.BrokenPathResults.{AddsBroken, IsAt, IsInCase, IsOf}
use Rattle.ac_unfold.specs.UnfoldPaths.{BrokenPathsOf}
use Rattle.ac_unfold.specs.UnfoldStops.{AreKillsRows, Follows, FollowsCase, FollowsCut}
use Rattle.ac_unfold.specs.UnbrokenResults.{CaseStands, FindsNone, StandsIn}
use Rattle.ac_unfold.specs.declared.ends.Search.{Search}
use Rattle.ac_unfold.specs.declared.node.Node.{Node}
use Rattle.ac_unfold.specs.declared.tasks.CutAt.{CutAt}
use Rattle.ac_unfold.specs.declared.tasks.Task.{Task}
use Rattle.ac_unfold.specs.declared.tasks.Task.TheVariants as task
use Rattle.ac_unfold.specs.declared.types.UnfoldStop.{UnfoldStop}
use Rattle.ac_unfold.specs.declared.types.UnfoldStop.TheVariants.{Overflow, Spent, Paths, Memory}

-- ---- one task

-- where the task stands: an unfolding comes to its question and no claim stands on the way, or to a case, outside its first kills
abbrev pub At : Search → Task → Unfolding → Type 0
At search (task.Visit node) = IsAt search node.pair_path node.question
At search (task.Rest node) = IsAt search node.pair_path node.question
At search (task.Case node case) = IsInCase search case.now node.pair_path node.question
At search (task.Outside node case number) = IsOutsideKills search case.now number node.pair_path node.question
At search (task.Kills node case number) = IsOutsideKills search case.now number node.pair_path node.question
At search (task.Cut at) = IsOutsideKills search at.case.now at.number at.node.pair_path at.node.question
At search (task.Step order around) = λ u. Unit {0}
At search (task.Branch embedding row around) = λ u. Unit {0}

-- and which questions it follows
abbrev pub On : Search → Task → Unfolding → Type 0
On search (task.Visit node) = Follows search node.pair_path node.question
On search (task.Rest node) = Follows search node.pair_path node.question
On search (task.Case node case) = FollowsCase search case.now node.pair_path node.question
On search (task.Outside node case number) = FollowsCut search case.now number 0 node.pair_path node.question
On search (task.Kills node case number) = FollowsCut search case.now number 0 node.pair_path node.question
On search (task.Cut at) = FollowsCut search at.case.now at.number at.standing at.node.pair_path at.node.question
On search (task.Step order around) = λ u. Unit {0}
On search (task.Branch embedding row around) = λ u. Unit {0}

-- both
abbrev pub Place : Search → Task → Unfolding → Type 0
Place search t = λ u. At search t u × On search t u

-- an unfolding comes to the question of a visit, and follows it
abbrev pub IsThere : Search → List (Seat × Seat) → Path → Unfolding → Type 0
IsThere search pair_path q = λ u. IsAt search pair_path q u × Follows search pair_path q u

-- the rows are those of the kill with the number, over the columns of the question, and the first ones stand there
pub record IsCutAt (search : Search) (at : CutAt) : Type 0 where
  pub numbered : AreKillRows search at.case.now at.number at.node.question at.rows
  pub there : AreKillsRows search at.case.now at.number at.node.question at.rows
  pub kill_there : IsKillThere search at.node.question at.case.now at.kill.now at.rows
  pub stand : AreStanding at.node.question.conj (take at.standing at.rows)

-- what is known of a task: a question of a case has assumed it
abbrev pub IsReady : Search → Task → Type 0
IsReady search (task.Visit node) = Unit {0}
IsReady search (task.Rest node) = Unit {0}
IsReady search (task.Case node case) = is_some node.question.last ≡ true
IsReady search (task.Outside node case number) = is_some node.question.last ≡ true
IsReady search (task.Kills node case number) = is_some node.question.last ≡ true
IsReady search (task.Cut at) = IsCutAt search at
IsReady search (task.Step order around) = Unit {0}
IsReady search (task.Branch embedding row around) = Unit {0}

-- where no broken path is found, what has to stand
abbrev pub Needs : Search → Task → Type 0
Needs search (task.Visit node) = StandsIn search node.question
Needs search (task.Rest node) = StandsIn search node.question
Needs search (task.Case node case) = CaseStands search case.now node.question
Needs search (task.Outside node case number) = Unit {0}
Needs search (task.Kills node case number) = Unit {0}
Needs search (task.Cut at) = Unit {0}
Needs search (task.Step order around) = Unit {0}
Needs search (task.Branch embedding row around) = Unit {0}

-- ---- plans

-- one plan more, of this kind
pub record MakesOne (Kind : Plan → Type 0) (before after : List Plan) : Type 0 where
  pub plan : Plan
  pub kind : Kind plan
  pub is : after ≡ before ++ plan ∷ []

-- the plan of a step is made of all plans, and comes behind those before the step
abbrev pub ClosesStep : Order → List Plan → List Plan → List Plan → Type 0
ClosesStep order around before after = MakesOne (IsStep order before) around after

-- the plan of a branch on a row
pub record IsBranch (embedding : Embedding) (row : Row) (inside : Plan) (outside : List Plan) (t : Plan) : Type 0 where
  pub serves : BranchServesAnywhere embedding row inside outside t
  pub branches : BranchesTo (inside ∷ outside) t.next

-- so is that of a branch, if there is one inside, the last
abbrev pub ClosesBranch : Embedding → Row → List Plan → List Plan → List Plan → Type 0
ClosesBranch embedding row around before after = (outside : List Plan) (inside : Plan) → before ≡ outside ++ inside ∷ [] → MakesOne (IsBranch embedding row inside outside) around after

-- which plans come of the task behind those before
abbrev pub Makes : Search → Task → List Plan → List Plan → Type 0
Makes search (task.Visit node) before after = MakesOne (IsMade search node.embedding node.question) before after
Makes search (task.Rest node) before after = Unit {0}
Makes search (task.Case node case) before after = MakesOne (IsMadeIn search case.now node.embedding node.question) before after
Makes search (task.Outside node case number) before after = MakesOne (IsMadeIn search case.now node.embedding node.question) before after
Makes search (task.Kills node case number) before after = MakesOne (IsMadeIn search case.now node.embedding node.question) before after
Makes search (task.Cut at) before after = MakesOne (IsMadeIn search at.case.now at.node.embedding at.node.question) before after
Makes search (task.Step order around) before after = ClosesStep order around.items before after
Makes search (task.Branch embedding row around) before after = ClosesBranch embedding row around.items before after

-- and of tasks, one after the other
abbrev pub MakeAll : Search → List Task → List Plan → List Plan → Type 0
MakeAll search [] before after = after ≡ before
MakeAll search (t ∷ ts) before after = (next : List Plan) × Makes search t before next × MakeAll search ts next after

-- ---- how a task goes on

-- wherever an unfolding is at the task, it is at the next one
pub record LeadsTo (search : Search) (from to : Task) : Type 0 where
  pub at : (u : Unfolding) → IsOf search u → At search from u → At search to u
  pub on : (u : Unfolding) → IsOf search u → On search from u → On search to u
  pub fits : IsReady search to

-- by these tasks, without a path that is broken
pub record Unfolds (search : Search) (t : Task) (more : List Task) (before after : List Plan) : Type 0 where
  pub lead : AllByRecursion (LeadsTo search t) more
  pub makes : search.making ≡ true → (last : List Plan) → MakeAll search more after last → Makes search t before last
  pub holds : search.making ≡ false → AllByRecursion (Needs search) more → Needs search t

-- and makes no plan by itself
abbrev pub MovesOn : Search → Task → List Task → Type 0
MovesOn search t more = (plans : List Plan) → Unfolds search t more plans plans

-- by these tasks and paths
pub record Continues (search : Search) (t : Task) (more : List Task) (before after : List Plan) (old new : BrokenPathsOf) : Type 0 where
  pub lead : AllByRecursion (LeadsTo search t) more
  pub makes : search.making ≡ true → (last : List Plan) → MakeAll search more after last → Makes search t before last
  pub holds : FindsNone search old new → AllByRecursion (Needs search) more → Needs search t
  pub broken : AddsBroken search (Place search t) old new

-- where plans are made, it ends if a path is broken
pub record Breaks (search : Search) (t : Task) (old new : BrokenPathsOf) : Type 0 where
  pub making : search.making ≡ true
  pub found : length old.paths < length new.paths
  pub broken : AddsBroken search (Place search t) old new

abbrev pub Goes : Search → Task → List Plan → List Plan → BrokenPathsOf → BrokenPathsOf → Option (Vec Task Global) → Type 0
Goes search t before after old new None = Breaks search t old new
Goes search t before after old new (Some more) = Continues search t more.items before after old new

-- ---- tasks of one step

-- a node behind a branch
pub record IsChild (node : Node) (b : Branch) (child : Node) : Type 0 where
  pub question : child.question ≡ onto node.question b
  pub embedding : child.embedding ≡ grown node.embedding b.columns (length b.rows)
  pub pair_path : child.pair_path ≡ node.pair_path ++ (b.left, b.right) ∷ []

-- visits behind the branches, in order
abbrev pub IsVisit : Node → Branch → Task → Type 0
IsVisit node b (task.Visit child) = IsChild node b child
IsVisit node b _ = ⊥

abbrev pub AreVisits : Node → List Branch → List Task → Type 0
AreVisits node [] [] = Unit {0}
AreVisits node (b ∷ bs) (t ∷ ts) = IsVisit node b t × AreVisits node bs ts
AreVisits node _ _ = ⊥

-- the case with the number, behind a branch that assumes it
abbrev pub IsCaseTask : Search → Node → Side → ReadFlow → ℕ → Branch → Task → Type 0
IsCaseTask search node side read number b (task.Case child case) = IsChild node b child × IsAssumed search side read case.now child.question × (slice_get read.cases number ≡ Some case.now)
IsCaseTask search node side read number b _ = ⊥

abbrev pub AreCases : Search → Node → Side → ReadFlow → ℕ → List Branch → List Task → Type 0
AreCases search node side read number [] [] = Unit {0}
AreCases search node side read number (b ∷ bs) (t ∷ ts) = IsCaseTask search node side read number b t × AreCases search node side read (number + 1) bs ts
AreCases search node side read number _ _ = ⊥

-- a node at what is left of a case
abbrev pub IsRest : Search → Node → Remainder → Task → Type 0
IsRest search node rest (task.Rest left) = (at_rest (judge_of search).params node.question rest.conj ≡ Some left.question) × (left.pair_path ≡ node.pair_path)
IsRest search node rest _ = ⊥

abbrev pub AreRests : Search → Node → List Remainder → List Task → Type 0
AreRests search node [] [] = Unit {0}
AreRests search node (r ∷ rs) (t ∷ ts) = IsRest search node r t × AreRests search node rs ts
AreRests search node _ _ = ⊥

-- the plans that come of the tasks are those of a step, and nothing is made of it yet
pub record IsOverStep (order : Order) (more made : List Task) (before after : List Plan) : Type 0 where
  pub around : Vec Plan Global
  pub around_is : around.items ≡ before
  pub made_is : made ≡ more ++ task.Step order around ∷ []
  pub none : after ≡ []

pub record HasStep (search : Search) (order : Order) (more made : List Task) (before after : List Plan) : Type 0 where
  pub making : search.making ≡ true → IsOverStep order more made before after
  pub finding : search.making ≡ false → made ≡ more

-- ---- tasks at a kill

-- on a side of a row
pub record IsNodeOn (node : Node) (part : Part) (side : Node) : Type 0 where
  pub question : side.question ≡ question_on node.question part
  pub embedding : side.embedding ≡ on_side node.embedding part
  pub pair_path : side.pair_path ≡ node.pair_path

-- outside the kills from this one on
abbrev pub IsBeside : Node → Case → ℕ → Part → Task → Type 0
IsBeside node case number part (task.Outside side own from) = IsNodeOn node part side × (own.now ≡ case) × (from ≡ number)
IsBeside node case number part _ = ⊥

abbrev pub AreBeside : Node → Case → ℕ → List Part → List Task → Type 0
AreBeside node case number [] [] = Unit {0}
AreBeside node case number (p ∷ ps) (t ∷ ts) = IsBeside node case number p t × AreBeside node case number ps ts
AreBeside node case number _ _ = ⊥

-- behind a row that stands
abbrev pub passed_row : CutAt → CutAt
passed_row at = record { node = at.node; case = at.case; number = at.number; kill = at.kill; rows = at.rows; standing = at.standing + 1 }

-- a branch on the next row: the parts of its negation, and the rows behind it where it holds
pub record IsSplit (at : CutAt) (row : Row) (parts : Parts) (more : List Task) (before after : List Plan) : Type 0 where
  pub next : ℕ
  pub next_is : next ≡ at.number + 1
  pub sides : List Task
  pub are : AreBeside at.node at.case.now next parts.outside sides
  pub inside : Node
  pub inside_is : IsNodeOn at.node parts.inside inside
  pub around : Vec Plan Global
  pub around_is : around.items ≡ before
  pub more_is : more ≡ sides ++ task.Cut (record { node = inside; case = at.case; number = at.number; kill = at.kill; rows = at.rows; standing = at.standing + 1 }) ∷ task.Branch at.node.embedding row around ∷ []
  pub none : after ≡ []

-- the end where all rows stand
abbrev pub IsEndAt : Search → CutAt → List Plan → List Plan → Type 0
IsEndAt search at before after = MakesOne (IsKilled search at.node at.kill.now) before after

-- ---- ends

-- no further task; none where a path is broken and plans are made
abbrev pub Ends : Search → Result (Option Plan) UnfoldStop → List Plan → List Plan → Option (Vec Task Global) → Type 0
Ends search (Ok (Some t)) before after (Some more) = (more.items ≡ []) × (after ≡ before ++ t ∷ [])
Ends search (Ok (Some t)) before after None = ⊥
Ends search (Ok None) before after (Some more) = (more.items ≡ []) × (search.making ≡ false)
Ends search (Ok None) before after None = search.making ≡ true
Ends search (Err stop) before after o = ⊥

-- the stop is that of an end, or there is no memory
abbrev pub IsStopFrom : Result (Option Plan) UnfoldStop → UnfoldStop → Type 0
IsStopFrom made (Overflow q) = made ≡ Err (Overflow q)
IsStopFrom made (Spent q cost) = made ≡ Err (Spent q cost)
IsStopFrom made (Paths found) = made ≡ Err (Paths found)
IsStopFrom made (Memory want) = Unit {0}

-- the unfolding goes on by the tasks
abbrev pub onward_of : Result (Vec Task Global) UnfoldStop → Result (Option (Vec Task Global)) UnfoldStop
onward_of (Ok more) = Ok (Some more)
onward_of (Err stop) = Err stop

-- where plans are made, this is the last one
pub record IsLast (search : Search) (plans : List Plan) (t : Plan) : Type 0 where
  pub making : search.making ≡ true
  pub rest : List Plan
  pub is : plans ≡ rest ++ t ∷ []
