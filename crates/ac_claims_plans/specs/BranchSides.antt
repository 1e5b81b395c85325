-- The sides of a branch on a row: what a question has there, and where that stands on the path.
use Rattle.std.specs.Prelude.{◌≡◌, ◌≤◌, ◌<ℤ◌, true, false, Option, Some, None, ℕ, ◌+◌, ◌-◌, ℤ, pos, neg_ℤ, ◌-ℤ◌, List, [], ◌∷◌, ◌++◌, map, Bool, cond, int_le, unsigned_abs}
use Rattle.std.specs.List.{range_with_len}
use Rattle.ac_forms.specs.Affine.{Affine, shifted}
use Rattle.ac_forms.specs.Fits.{Fits}
use Rattle.ac_forms.specs.Negation.{opposite, above, below, with_column, NegationFits}
use Rattle.ac_forms.specs.Rows.{IsRowOver, IsWellMade}
use Rattle.ac_forms.specs.declared.conj.Conj.{Conj}
use Rattle.ac_forms.specs.declared.row.Row.{Row}
use Rattle.ac_forms.specs.declared.row.Row.TheVariants.{Eq, Div, Ge}
use Rattle.ac_cert.specs.Rules.{class, class_row}
use Rattle.ac_claims_paths.specs.PathSteps.{Pairing, at_rows}
use Rattle.ac_claims_paths.specs.declared.path.Path.{Path}
use Rattle.ac_claims.specs.declared.types.Claim.{Claim}
use Rattle.ac_claims.specs.declared.types.Plan.{Plan}
use Rattle.ac_claims_plans.specs.Embeddings.{with_places}
use Rattle.ac_claims_plans.specs.PlanAcceptance.{AcceptsPlan, Serves}
use Rattle.ac_claims_plans.specs.declared.embedding.Embedding.{Embedding}
use Rattle.ac_claims_plans.specs.declared.branching.Part.{Part}
use Rattle.ac_claims_plans.specs.declared.branching.Parts.{Parts}

-- the question on a side
abbrev pub side_of : Conj → Part → Conj
side_of c p = record { columns = c.columns + p.question_columns; rows = c.rows ++ p.rows }

-- its embedding there
abbrev pub on_side : Embedding → Part → Embedding
on_side s p = record {
  columns = s.columns ++ range_with_len s.next_column p.question_columns;
  rows = s.rows ++ map (λ k. s.next_row + k) p.places;
  next_column = s.next_column + p.path_columns;
  next_row = s.next_row + p.path_rows;
}

-- a side with one row
abbrev pub one_row : Row → ℕ → ℕ → ℕ → Part
one_row r place columns rows = record { rows = r ∷ []; places = place ∷ []; question_columns = 0; path_columns = columns; path_rows = rows }

-- where a divisibility does not hold, over n columns: the form leaves a remainder from 1 to m - 1
abbrev pub rest_side : ℕ → ℤ → Affine → Part
rest_side n m f = record {
  rows = Ge (with_column n (neg_ℤ m) (above f)) ∷ Ge (with_column n m (shifted (opposite f) (m -ℤ pos 1))) ∷ [];
  places = 2 ∷ 1 ∷ [];
  question_columns = 1;
  path_columns = 1;
  path_rows = 3;
}

-- divisibilities up to this modulus are branched on by all residues
abbrev pub has_few : ℤ → Bool
has_few m = int_le m (pos 64)

-- where the row holds
abbrev pub inside_of : Row → Part
inside_of (Eq f) = one_row (Eq f) 2 0 3
inside_of (Div m f) = cond (has_few m) (one_row (Div m f) 0 0 1) (one_row (Div m f) 5 1 6)
inside_of (Ge f) = one_row (Ge f) 0 0 1

-- where it doesn't, over n columns
abbrev pub outside_of : ℕ → Row → List Part
outside_of n (Eq f) = one_row (Ge (above f)) 1 0 2 ∷ one_row (Ge (below f)) 0 0 1 ∷ []
outside_of n (Div m f) = cond (has_few m) (map (λ r. one_row (class_row m f (pos r)) 0 0 1) (range_with_len 1 (unsigned_abs m - 1))) (rest_side n m f ∷ [])
outside_of n (Ge f) = one_row (Ge (below f)) 0 0 1 ∷ []

abbrev pub sides_of : ℕ → Row → Parts
sides_of n r = record { inside = inside_of r; outside = outside_of n r }

-- the residues up to m - 1 are taken from the form in `i128`
abbrev pub ClassesFit : ℤ → Affine → Type 0
ClassesFit m f = (r : ℕ) → 1 ≤ r → pos r <ℤ m → Fits (f.konst -ℤ pos r)

-- the sides are made in `i128`
abbrev pub CanBranch : Row → Type 0
CanBranch (Eq f) = NegationFits (Eq f)
CanBranch (Div m f) = (has_few m ≡ true → ClassesFit m f) × (has_few m ≡ false → NegationFits (Div m f))
CanBranch (Ge f) = NegationFits (Ge f)

-- all sides of the row; none where a number of them leaves `i128`
abbrev pub AreSides : ℕ → Row → Option Parts → Type 0
AreSides n r None = ¬ CanBranch r
AreSides n r (Some parts) = CanBranch r × (parts ≡ sides_of n r)

-- ---- plans on the sides

-- a plan for each class, from class i on
abbrev pub AcceptsClasses : Pairing → List Claim → List Plan → ℤ → Affine → ℕ → Path → Type 0
AcceptsClasses g cs [] m f i h = Unit {0}
AcceptsClasses g cs (t ∷ ts) m f i h = AcceptsPlan g cs t (at_rows h (class m f (pos i) h.conj)) × AcceptsClasses g cs ts m f (i + 1) h

-- a plan for each side, on which it serves
abbrev pub ServeEach : Pairing → List Claim → Path → Embedding → Conj → List Part → List Plan → Type 0
ServeEach g cs h s c [] [] = Unit {0}
ServeEach g cs h s c (p ∷ ps) (t ∷ ts) = Serves g cs h (on_side s p) (side_of c p) t × ServeEach g cs h s c ps ts
ServeEach g cs h s c _ _ = ⊥

-- where the plans serve the sides of a question on a row, the plan of the branch serves the question
abbrev pub BranchServes : Embedding → Row → Plan → List Plan → Plan → Type 0
BranchServes s r inside outside t =
    (g : Pairing) (cs : List Claim) (h : Path) (c : Conj) → IsWellMade c → IsRowOver c.columns r → CanBranch r
    → Serves g cs h (on_side s (inside_of r)) (side_of c (inside_of r)) inside → ServeEach g cs h s c (outside_of c.columns r) outside → Serves g cs h s c t

-- so it does wherever the question's rows stand
abbrev pub BranchServesAnywhere : Embedding → Row → Plan → List Plan → Plan → Type 0
BranchServesAnywhere s r inside outside t = (places : List ℕ) → BranchServes (with_places s places) r inside outside t
