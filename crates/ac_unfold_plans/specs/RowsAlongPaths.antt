-- Rows over the columns of a question, and when they stand on the paths that follow it.
use Rattle.std.specs.Prelude.{◌≡◌, ◌≤◌, ℕ, List, length, true, false}
use Rattle.std.specs.List.{AllByRecursion}
use Rattle.ac_forms.specs.Affine.{Affine, FormFits}
use Rattle.ac_forms.specs.RowColumns.{trimmed}
use Rattle.ac_forms.specs.NormalForm.{is_absurd}
use Rattle.ac_forms.specs.NormalRows.{normal_row, NormalFits}
use Rattle.ac_forms.specs.Renaming.{renamed, with_form}
use Rattle.ac_forms.specs.Rows.{form_of, IsWellMade}
use Rattle.ac_forms.specs.Standing.{stands}
use Rattle.ac_forms.specs.declared.conj.Conj.{Conj}
use Rattle.ac_forms.specs.declared.row.Row.{Row}
use Rattle.ac_claims_paths.specs.declared.path.Path.{Path}
use Rattle.ac_claims_plans.specs.BranchSides.{CanBranch}
use Rattle.ac_claims_plans.specs.QuestionEmbedding.{StandsAt}
use Rattle.ac_claims_plans.specs.declared.embedding.Embedding.{Embedding}
use Rattle.ac_claims_plans.specs.QuestionPaths.{AreRising, Follows}

-- over these columns of the path, and whatever zeros stand at the end of its form, the row stands among the path's rows
abbrev pub RowStandsOn : List ℕ → Conj → Row → Type 0
RowStandsOn columns path r = (form : Affine) → trimmed form ≡ trimmed (renamed columns (form_of r)) → stands path.rows (with_form r form) ≡ true

abbrev pub RowsStandOn : List ℕ → Conj → List Row → Type 0
RowsStandOn columns path = AllByRecursion (RowStandsOn columns path)

-- it does so on each path that follows the question q so embedded
abbrev pub RowStandsAlong : ℕ → Embedding → Path → Row → Type 0
RowStandsAlong params s q r = (h : Path) → Follows params s q h → RowStandsOn s.columns h.conj r

abbrev pub RowsStandAlong : ℕ → Embedding → Path → List Row → Type 0
RowsStandAlong params s q = AllByRecursion (RowStandsAlong params s q)

-- ---- which rows do

-- a row that stands among those of the question
abbrev pub StandingRowsStandAlong : Type 0
StandingRowsStandAlong = (params : ℕ) (s : Embedding) (q : Path) (r : Row) → IsWellMade q.conj → length (form_of r).coefs ≤ q.conj.columns → stands q.conj.rows r ≡ true → RowStandsAlong params s q r

-- a row that is there, where it has a normal form in `i128` that isn't absurd
abbrev pub RowsThereStand : Type 0
RowsThereStand =
    (columns : List ℕ) (path : Conj) (i : ℕ) (r : Row) → AreRising columns → length (form_of r).coefs ≤ length columns → StandsAt columns path i r → NormalFits r → is_absurd (normal_row r) ≡ false → RowStandsOn columns path r

-- so has each row that can be branched on, where its numbers are ones of `i128`
abbrev pub RowsBranchedOnFit : Type 0
RowsBranchedOnFit = (r : Row) → FormFits (form_of r) → CanBranch r → NormalFits r
