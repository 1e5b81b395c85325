-- A case outside its kills, one kill after the other.
use Rattle.std.specs.Prelude.{◌≡◌, ◌≤◌, ℕ, List, ℤ, length, take, Some, slice_get}
use Rattle.ac_forms.specs.ListMembers.{IsAmong}
use Rattle.ac_forms.specs.Renaming.{picked, rows_renaming}
use Rattle.ac_forms.specs.Rows.{Meets}
use Rattle.ac_forms.specs.declared.conj.Conj.{Conj}
use Rattle.ac_forms.specs.declared.row.Row.{Row}
use Rattle.ac_claims_paths.specs.PathSteps.{at_rows, extended}
use Rattle.ac_claims_paths.specs.CopyKills.{case_columns}
use Rattle.ac_claims_paths.specs.declared.path.Assumed.{Assumed}
use Rattle.ac_claims_paths.specs.declared.path.Path.{Path}
use Rattle.ac_claims_paths.specs.declared.path.Seat.{Seat}
use Rattle.ac_claims.specs.declared.types.Kill.{Kill}
use Rattle.ac_flow.specs.declared.types.Case.{Case}
use Rattle.ac_flow.specs.SourceSteps.{InNoKill}
use Rattle.ac_claims_plans.specs.declared.branching.Part.{Part}
use Rattle.ac_widen_programs.specs.PairPaths.{Unfolding}
use Rattle.ac_claims_plans.specs.QuestionPlans.{question_on}
use Rattle.ac_unfold.specs.PlanResults.{judge_of}
use Rattle.ac_unfold.specs.BrokenPathResults.{IsInCase}
use Rattle.ac_unfold.specs.declared.ends.Search.{Search}
use Rattle.ac_unfold.specs.declared.node.Node.{Node}

-- ---- further rows and columns

-- the second path is the first one with further rows, and further columns behind its own
pub record IsGrown (q v : Path) : Type 0 where
  pub more : ℕ
  pub rows : List Row
  pub is : v ≡ at_rows q (extended q.conj more rows)

-- so is a node's question, and the pairs are the same
pub record GoesWithin (node next : Node) : Type 0 where
  pub question : IsGrown node.question next.question
  pub pair_path : next.pair_path ≡ node.pair_path

-- ---- kills

-- no point of the rows meets all of the others
unfoldable pub AreApart : Conj → List Row → Type 0
AreApart c rows = (p : List ℤ) → c.columns ≤ length p → Meets c.rows p → ¬ (Meets rows p)

-- these are the rows of the kill with the number, over the columns of the question
unfoldable pub AreKillRows : Search → Case → ℕ → Path → List Row → Type 0
AreKillRows search case number q rows = (kill : Conj × Kill) → slice_get case.kills number ≡ Some kill → (a : Assumed) → q.last ≡ Some a → Some rows ≡ rows_renaming (case_columns (judge_of search).params a) kill.0.rows

-- the row is one of them
pub record IsKillRow (search : Search) (case : Case) (number : ℕ) (q : Path) (row : Row) : Type 0 where
  pub rows : List Row
  pub are : AreKillRows search case number q rows
  pub among : IsAmong row rows

-- no point of the question is in the kill with the number
unfoldable pub Misses : Search → Case → ℕ → Path → Type 0
Misses search case number q =
    (kill : Conj × Kill) → slice_get case.kills number ≡ Some kill → (a : Assumed) → q.last ≡ Some a → (p : List ℤ) → q.conj.columns ≤ length p → Meets q.conj.rows p → ¬ (Meets kill.0.rows (picked (case_columns (judge_of search).params a) p))

-- nor is one on these sides of it
unfoldable pub SidesMiss : Search → Case → ℕ → Path → List Part → Type 0
SidesMiss search case number q parts = (part : Part) → IsAmong part parts → Misses search case number (question_on q part)

-- ---- outside them

-- the question is the branch of a case to which the unfolding comes, with further rows and columns, and its points are in none of the
-- first kills of the case, so many
pub record IsOutsideKills (search : Search) (case : Case) (number : ℕ) (pair_path : List (Seat × Seat)) (q : Path) (u : Unfolding) : Type 0 where
  pub branch : Path
  pub in_case : IsInCase search case pair_path branch u
  pub grown : IsGrown branch q
  pub outside : (p : List ℤ) → q.conj.columns ≤ length p → Meets q.conj.rows p → (a : Assumed) → q.last ≡ Some a → InNoKill (take number case.kills) (picked (case_columns (judge_of search).params a) p)
