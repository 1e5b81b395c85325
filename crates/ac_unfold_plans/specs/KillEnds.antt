-- The kills of a flow as ends of a plan: what one asks of a question, and when it is accepted on a path that follows the question.
use Rattle.std.specs.Prelude.{◌≡◌, ℕ, List, Some, None}
use Rattle.ac_forms.specs.Renaming.{rows_renaming}
use Rattle.ac_forms.specs.declared.conj.Conj.{Conj}
use Rattle.ac_forms.specs.declared.row.Row.{Row}
use Rattle.ac_poly.specs.declared.types.Model.{Model}
use Rattle.ac_claims_paths.specs.PathSteps.{Pairing}
use Rattle.ac_claims_paths.specs.CopyKills.{case_columns, case_width}
use Rattle.ac_claims_paths.specs.declared.path.Assumed.{Assumed}
use Rattle.ac_claims_paths.specs.declared.path.Path.{Path}
use Rattle.ac_claims.specs.PlanFaults.{kill_fault}
use Rattle.ac_claims.specs.declared.types.Claim.{Claim}
use Rattle.ac_claims.specs.declared.types.Kill.{Kill}
use Rattle.ac_claims.specs.declared.types.Plan.{Plan}
use Rattle.ac_claims.specs.declared.types.PlanNext.TheVariants.{Killed}
use Rattle.ac_flow.specs.FlowCases.{Reads}
use Rattle.ac_flow.specs.declared.types.Case.{Case}
use Rattle.ac_flow.specs.KillAcceptance.{IsKillOf, IsAssumedOn, assumed_by, on_path}
use Rattle.ac_claims_plans.specs.declared.embedding.Embedding.{Embedding}
use Rattle.ac_claims_plans.specs.QuestionPaths.{Follows, IsPlanFor}
use Rattle.ac_unfold_plans.specs.PlanEnds.{IsEnd}
use Rattle.ac_unfold_plans.specs.RowsAlongPaths.{RowsStandOn, RowsStandAlong}

-- what was assumed last on the question is what a case of a flow assumes, of which this is a kill; it asks for these rows over the
-- question's columns
pub record IsKillAt (g : Pairing) (q : Path) (a : Assumed) (kill : Conj × Kill) (wanted : List Row) : Type 0 where
  pub model : Model
  pub reads : Reads
  pub case : Case
  pub is : IsKillOf model reads case kill
  pub last : q.last ≡ Some a
  pub assumed : IsAssumedOn g a model (assumed_by model reads case)
  pub rows : rows_renaming (case_columns g.params a) kill.0.rows ≡ Some wanted

-- the kill with its choices behind the columns of the path
abbrev pub kill_on : Pairing → Embedding → Assumed → Kill → Kill
kill_on g s a kill = on_path (case_width g.params a) s.next_column kill

-- where they stand on a path, what was assumed last there is killed
abbrev pub KillsAreAccepted : Type 0
KillsAreAccepted =
    (g : Pairing) (s : Embedding) (q h : Path) (a : Assumed) (kill : Conj × Kill) (wanted : List Row) (line : ℕ) → IsKillAt g q a kill wanted → Follows g.params s q h → RowsStandOn s.columns h.conj wanted → kill_fault g h h.last (kill_on g s a kill.1) line ≡ None

-- where they stand on each path that follows, the end is a plan for the question
abbrev pub KillsArePlans : Type 0
KillsArePlans =
    (g : Pairing) (cs : List Claim) (s : Embedding) (q : Path) (a : Assumed) (kill : Conj × Kill) (wanted : List Row) (t : Plan) → IsKillAt g q a kill wanted → RowsStandAlong g.params s q wanted → IsEnd (Killed (kill_on g s a kill.1)) t → IsPlanFor g cs s q t
