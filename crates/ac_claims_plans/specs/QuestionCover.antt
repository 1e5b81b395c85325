-- A question that stands wherever another one does: it may have fewer rows, and stay as it is behind branches on rows of which
-- the other one has more and more.
use Rattle.std.specs.Prelude.{◌≡◌, ℕ, List, length}
use Rattle.ac_forms.specs.Rows.{IsRowOver, IsWellMade}
use Rattle.ac_forms.specs.declared.conj.Conj.{Conj}
use Rattle.ac_forms.specs.declared.row.Row.{Row}
use Rattle.ac_claims_paths.specs.PathSteps.{Pairing, at_rows}
use Rattle.ac_claims_paths.specs.declared.path.Path.{Path}
use Rattle.ac_claims.specs.declared.types.Claim.{Claim}
use Rattle.ac_claims.specs.declared.types.Plan.{Plan}
use Rattle.ac_claims_plans.specs.Embeddings.{advanced}
use Rattle.ac_claims_plans.specs.BranchSides.{on_side, inside_of, outside_of, CanBranch, BranchServesAnywhere}
use Rattle.ac_claims_plans.specs.QuestionEmbedding.{Stand}
use Rattle.ac_claims_plans.specs.declared.branching.Part.{Part}
use Rattle.ac_claims_plans.specs.declared.embedding.Embedding.{Embedding}
use Rattle.ac_claims_plans.specs.QuestionPaths.{IsPlanFor}
use Rattle.ac_claims_plans.specs.QuestionPlans.{question_on, AreSidePlans}

-- the question q, embedded by s, has the positions and the columns of the question v, embedded by z, on paths as long, and its rows
-- stand wherever those of v do
pub record Covers (s : Embedding) (q : Path) (z : Embedding) (v : Path) : Type 0 where
  pub positions : v ≡ at_rows q v.conj
  pub question_columns : v.conj.columns ≡ q.conj.columns
  pub columns : z.columns ≡ s.columns
  pub path_columns : z.next_column ≡ s.next_column
  pub path_rows : z.next_row ≡ s.next_row
  pub rows : (columns : List ℕ) (d : Conj) → Stand columns d v.conj.rows z.rows → Stand columns d q.conj.rows s.rows

-- a plan for the one is a plan for the other
abbrev pub PlansServeCovered : Type 0
PlansServeCovered = (g : Pairing) (cs : List Claim) (s : Embedding) (q : Path) (z : Embedding) (v : Path) (t : Plan) → Covers s q z v → IsPlanFor g cs s q t → IsPlanFor g cs z v t

abbrev pub QuestionsCoverThemselves : Type 0
QuestionsCoverThemselves = (s : Embedding) (q : Path) → Covers s q s q

-- the places of a side are those of its rows
abbrev pub HasPlaces : Part → Type 0
HasPlaces p = length p.places ≡ length p.rows

-- on a side of both it still stands wherever the other one does
abbrev pub SidesAreCovered : Type 0
SidesAreCovered = (s : Embedding) (q : Path) (z : Embedding) (v : Path) (p : Part) → HasPlaces p → Covers s q z v → Covers (on_side s p) (question_on q p) (on_side z p) (question_on v p)

-- and where it stays itself, on the path of a side without further columns
abbrev pub QuestionsMayStay : Type 0
QuestionsMayStay = (s : Embedding) (q : Path) (z : Embedding) (v : Path) (p : Part) → HasPlaces p → p.question_columns ≡ 0 → Covers s q z v → Covers (advanced s p.path_columns p.path_rows) q (on_side z p) (question_on v p)

-- a branch on a row, made by the embedding of the first one, is a plan for the other one, if the other one has the row inside;
-- outside, plans for the sides of the first one do
abbrev pub CoveredBranchesGivePlans : Type 0
CoveredBranchesGivePlans =
    (g : Pairing) (cs : List Claim) (s : Embedding) (q : Path) (z : Embedding) (v : Path) (r : Row) (inside : Plan) (outside : List Plan) (t : Plan) → Covers s q z v → IsWellMade v.conj → IsRowOver q.conj.columns r → CanBranch r → BranchServesAnywhere s r inside outside t
    → IsPlanFor g cs (on_side z (inside_of r)) (question_on v (inside_of r)) inside → AreSidePlans g cs s q (outside_of q.conj.columns r) outside → IsPlanFor g cs z v t
