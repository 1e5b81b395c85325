-- When the rows of a question stand on a path.
use Rattle.std.specs.Prelude.{◌≡◌, ℕ, List, [], ◌∷◌, length}
use Rattle.ac_forms.specs.Affine.{Affine}
use Rattle.ac_forms.specs.RowColumns.{trimmed}
use Rattle.ac_forms.specs.Renaming.{AreColumns, AreDistinct, renamed, with_form}
use Rattle.ac_forms.specs.Rows.{form_of}
use Rattle.ac_forms.specs.declared.conj.Conj.{Conj}
use Rattle.ac_forms.specs.declared.row.Row.{Row}
use Rattle.ac_cert.specs.StepRows.{IsAt}
use Rattle.ac_claims_plans.specs.declared.embedding.Embedding.{Embedding}

-- the path has the row at a place, over these columns, whatever zeros stand at the end of its form
pub record StandsAt (columns : List ℕ) (path : Conj) (i : ℕ) (r : Row) : Type 0 where
  pub form : Affine
  pub at : IsAt path i (with_form r form)
  pub is : trimmed form ≡ trimmed (renamed columns (form_of r))

-- each row stands at its place
abbrev pub Stand : List ℕ → Conj → List Row → List ℕ → Type 0
Stand columns path [] [] = Unit {0}
Stand columns path (r ∷ rs) (i ∷ is) = StandsAt columns path i r × Stand columns path rs is
Stand columns path _ _ = ⊥

-- the columns of the question c are columns of the path d, no two of them the same one; its rows stand there; and the path
-- has as many columns and rows as the embedding says
pub record StandsOn (s : Embedding) (c d : Conj) : Type 0 where
  pub columns : length s.columns ≡ c.columns
  pub among : AreColumns s.next_column s.columns
  pub distinct : AreDistinct s.columns
  pub rows : Stand s.columns d c.rows s.rows
  pub path_columns : d.columns ≡ s.next_column
  pub path_rows : length d.rows ≡ s.next_row
