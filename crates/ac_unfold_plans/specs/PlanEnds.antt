-- What an end of a plan asks of a question, and when it is accepted on a path that follows the question.
use Rattle.std.specs.Prelude.{◌≡◌, ℕ, List, [], ◌++◌, Option, Some, true, slice_get}
use Rattle.ac_forms.specs.Renaming.{rows_renaming}
use Rattle.ac_forms.specs.declared.row.Row.{Row}
use Rattle.ac_claims_paths.specs.PathColumns.{base, columns_of}
use Rattle.ac_claims_paths.specs.PathSteps.{Pairing}
use Rattle.ac_claims_paths.specs.ModelPositions.{number_at, initial_cell}
use Rattle.ac_claims_paths.specs.declared.path.Path.{Path}
use Rattle.ac_claims.specs.ProofEnds.{same_position, is_hit, equal_numbers, is_number, equal_cells, is_initial}
use Rattle.ac_claims.specs.declared.types.Claim.{Claim}
use Rattle.ac_claims.specs.declared.types.Plan.{Plan}
use Rattle.ac_claims.specs.declared.types.PlanNext.{PlanNext}
use Rattle.ac_claims.specs.declared.types.PlanNext.TheVariants.{Hit, SameNumber, SameInitial}
use Rattle.ac_claims_plans.specs.declared.embedding.Embedding.{Embedding}
use Rattle.ac_claims_plans.specs.QuestionPaths.{Follows, IsPlanFor}
use Rattle.ac_unfold_plans.specs.RowsAlongPaths.{RowsStandOn, RowsStandAlong}

-- ---- what is asked

-- the question is below a step of the pair, at the positions of the claim, which asks for these rows over the question's columns
pub record IsClaimAt (params : ℕ) (q : Path) (c : Claim) (wanted : List Row) : Type 0 where
  pub gone : q.gone ≡ true
  pub left : same_position q.left.position c.left ≡ true
  pub right : same_position q.right.position c.right ≡ true
  pub rows : rows_renaming (base params ++ (columns_of q.left ++ columns_of q.right)) c.rows ≡ Some wanted

-- the equality of two numbers at the positions of a question
abbrev pub number_rows : Pairing → Path → Option (List Row)
number_rows g q = equal_numbers g q (number_at g.left q.left.position) (number_at g.right q.right.position)

-- the equalities of the subscripts of two initial cells of one input there
abbrev pub initial_rows : Pairing → Path → Option (List Row)
initial_rows g q = equal_cells g q (initial_cell g.left q.left.position) (initial_cell g.right q.right.position)

-- ---- where it stands on a path

-- the claim is hit
abbrev pub ClaimsAreHit : Type 0
ClaimsAreHit = (g : Pairing) (s : Embedding) (q h : Path) (c : Claim) (wanted : List Row) → IsClaimAt g.params q c wanted → Follows g.params s q h → RowsStandOn s.columns h.conj wanted → is_hit g h (Some c) ≡ true

-- the numbers are equal
abbrev pub NumbersAreEqual : Type 0
NumbersAreEqual = (g : Pairing) (s : Embedding) (q h : Path) (wanted : List Row) → number_rows g q ≡ Some wanted → Follows g.params s q h → RowsStandOn s.columns h.conj wanted → is_number g h ≡ true

-- the cells are one
abbrev pub InitialCellsAreEqual : Type 0
InitialCellsAreEqual = (g : Pairing) (s : Embedding) (q h : Path) (wanted : List Row) → initial_rows g q ≡ Some wanted → Follows g.params s q h → RowsStandOn s.columns h.conj wanted → is_initial g h ≡ true

-- ---- where it stands on each path that follows, the end is a plan for the question

-- the plan is this end, without steps
abbrev pub IsEnd : PlanNext → Plan → Type 0
IsEnd next t = (t.steps ≡ []) × (t.next ≡ next)

abbrev pub HitsArePlans : Type 0
HitsArePlans =
    (g : Pairing) (cs : List Claim) (s : Embedding) (q : Path) (c : Claim) (n : ℕ) (wanted : List Row) (t : Plan) → IsClaimAt g.params q c wanted → slice_get cs n ≡ Some c → RowsStandAlong g.params s q wanted → IsEnd (Hit n) t → IsPlanFor g cs s q t

abbrev pub EqualNumbersArePlans : Type 0
EqualNumbersArePlans = (g : Pairing) (cs : List Claim) (s : Embedding) (q : Path) (wanted : List Row) (t : Plan) → number_rows g q ≡ Some wanted → RowsStandAlong g.params s q wanted → IsEnd SameNumber t → IsPlanFor g cs s q t

abbrev pub EqualCellsArePlans : Type 0
EqualCellsArePlans = (g : Pairing) (cs : List Claim) (s : Embedding) (q : Path) (wanted : List Row) (t : Plan) → initial_rows g q ≡ Some wanted → RowsStandAlong g.params s q wanted → IsEnd SameInitial t → IsPlanFor g cs s q t
