-- Forms and rows on a path, number by number: which column of the question, if any, has a column of the path.
use Rattle.std.proofs.Common.{◌≡◌, ℕ, suc, ◌+◌, ◌-◌, ◌<◌, ℤ, pos, List, [], ◌∷◌, length, Option, Some, None, cond, nat_eq, nat_le}
use Rattle.std.specs.Prelude.{option_map}
use Rattle.ac_forms.specs.Affine.{Affine, coef}
use Rattle.ac_forms.specs.Renaming.{with_form}
use Rattle.ac_forms.specs.Rows.{form_of}
use Rattle.ac_forms.specs.declared.conj.Conj.{Conj}
use Rattle.ac_forms.specs.declared.row.Row.{Row}
use Rattle.ac_cert.specs.StepRows.{IsAt}
use Rattle.ac_claims_plans.specs.Embeddings.{row_on}
use Rattle.ac_claims_plans.specs.declared.embedding.Embedding.{Embedding}

-- the first place of a number in a list
abbrev pub place_of : ℕ → List ℕ → Option ℕ
place_of j [] = None
place_of j (x ∷ xs) = cond (nat_eq x j) (Some 0) (option_map (λ k. suc k) (place_of j xs))

-- different columns of a path of that many
abbrev pub AreNames : ℕ → List ℕ → Type 0
AreNames columns [] = Unit {0}
AreNames columns (x ∷ xs) = (x < columns) × (place_of x xs ≡ None) × AreNames columns xs

-- the column that is there, where the columns behind the named ones are the next ones
abbrev pub named : Embedding → ℕ → Option ℕ
named s j = cond (nat_le s.next_column j) (Some (length s.columns + (j - s.next_column))) (place_of j s.columns)

-- the coefficient of a column, 0 where there is none
abbrev pub coef_of : Option ℕ → Affine → ℤ
coef_of None f = pos 0
coef_of (Some k) f = coef k f

-- g is the form f on the path: the coefficient of a column there is that of the column that is there, or 0
pub record Renames (names : ℕ → Option ℕ) (f g : Affine) : Type 0 where
  pub konst : g.konst ≡ f.konst
  pub coefs : (j : ℕ) → coef j g ≡ coef_of (names j) f

-- the row stands on the path at a place
pub record Stands (names : ℕ → Option ℕ) (path : Conj) (i : ℕ) (r : Row) : Type 0 where
  pub form : Affine
  pub at : IsAt path i (with_form r form)
  pub renames : Renames names (form_of r) form

-- the rows of a conjunction, and those that steps and branches add to it, stand on the path, where their like were added
pub record IsShifted (s : Embedding) (c d : Conj) : Type 0 where
  pub names : AreNames s.next_column s.columns
  pub wider : ℕ
  pub columns : c.columns ≡ length s.columns + wider
  pub path_columns : d.columns ≡ s.next_column + wider
  pub longer : ℕ
  pub count : length c.rows ≡ length s.rows + longer
  pub path_count : length d.rows ≡ s.next_row + longer
  pub rows : (i : ℕ) (r : Row) → IsAt c i r → Stands (named s) d (row_on s i) r
