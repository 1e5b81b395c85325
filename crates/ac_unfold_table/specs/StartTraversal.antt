-- How the pairs behind a start are gone through: task by task, with what is to be done yet on a stack.
use Rattle.std.specs.Prelude.{◌≡◌, ◌⊎◌, ◌+◌, ◌-◌, ◌*◌, ◌^◌, ◌++◌, ◌∷◌, ℕ, List, length, map, reverse}
use Rattle.ac_forms.specs.ListMembers.{IsAmong}
use Rattle.ac_claims_paths.specs.declared.path.Path.{Path}
use Rattle.ac_claims.specs.declared.types.Claim.{Claim}
use Rattle.ac_unfold_plans.specs.PlanStops.{claim_positions}
use Rattle.ac_unfold.specs.declared.types.ProgramFlows.{ProgramFlows}
use Rattle.ac_unfold_table.specs.QuestionLists.{questions_of}
use Rattle.ac_unfold_table.specs.StepQuestions.{IsStepBehind, judge}
use Rattle.ac_unfold_table.specs.Tables.{TableOf}
use Rattle.ac_unfold_table.specs.TableCoverage.{AreCalls, Covers, Fails, HasClaim, IsCovered, IsReached, IsTried}
use Rattle.ac_unfold_table.specs.declared.unfolding.Task.{Task}
use Rattle.ac_unfold_table.specs.declared.unfolding.Task.TheVariants.{Question, Relation}

-- ---- the stack, whose top comes last

-- questions as tasks, the first one on top
abbrev pub tasks_of : List Path → List Task
tasks_of questions = reverse (map Question questions)

-- what is to be done for a relation: the questions behind it, and then itself
abbrev pub tasks_behind : ProgramFlows → TableOf → Claim → List Task
tasks_behind program_flows table relation = Relation relation ∷ tasks_of (questions_of program_flows table.order relation)

-- more relations met is less work, however many tasks come of one
abbrev pub work_left : List Claim → List Task → ℕ
work_left met tasks = (2 ^ 64 - length met) * 2 ^ 65 + length tasks

-- ---- what is known on the way

-- a relation was tried: its pair has a claim, or a relation that was met or a tabled claim covers it
abbrev pub IsMet : TableOf → List Claim → Claim → Type 0
IsMet table met r = HasClaim table.claims (claim_positions r) ⊎ ((c : Claim) × (IsAmong c met ⊎ IsAmong c table.tabled) × Covers c r)

-- the start itself, or a relation that is reached from it whose pair has no claim
abbrev pub StandsBehind : ProgramFlows → TableOf → Claim → Claim → Type 0
StandsBehind program_flows table start c = (c ≡ start) ⊎ (IsReached program_flows table.order table.claims start c × ¬ (HasClaim table.claims (claim_positions c)))

-- relations that were met are reached from the start; each question behind it or them was tried, and each of them is covered by a tabled claim if two calls stand there,
-- or fails, unless a task is left for it
pub record IsUnderWay (program_flows : ProgramFlows) (table : TableOf) (start : Claim) (met : List Claim) (tasks : List Task) : Type 0 where
  pub reached : (m : Claim) → IsAmong m met → IsReached program_flows table.order table.claims start m
  pub questions : (q : Path) → IsAmong (Question q) tasks → (c : Claim) × StandsBehind program_flows table start c × IsStepBehind program_flows table.order c q
  pub relations : (r : Claim) → IsAmong (Relation r) tasks → IsAmong r met × ¬ (HasClaim table.claims (claim_positions r))
  pub tried : (c : Claim) → (c ≡ start) ⊎ IsAmong c met → (q : Path) → IsStepBehind program_flows table.order c q → IsAmong (Question q) tasks ⊎ IsTried program_flows table met q
  pub closed : (m : Claim) → IsAmong m met → IsAmong (Relation m) tasks ⊎ (Fails program_flows table.order table.claims m ⊎ (AreCalls (judge program_flows) m → IsCovered table.tabled m))
