-- Where a question stands on a longer path: the places of its columns and rows, and what steps are there.
use Rattle.std.specs.Prelude.{ℕ, ◌+◌, ◌-◌, ℤ, List, ◌++◌, length, map, slice_index_or, cond, nat_lt}
use Rattle.std.specs.List.{range_with_len}
use Rattle.ac_forms.specs.Affine.{Affine}
use Rattle.ac_forms.specs.RowColumns.{trimmed}
use Rattle.ac_forms.specs.Renaming.{renamed}
use Rattle.ac_cert.specs.declared.types.Step.{Step}
use Rattle.ac_cert.specs.declared.types.Step.TheVariants.{Add, Cut, DivScale, DivAdd, DivMod, DivEq, Quot, Floor, EqCut}
use Rattle.ac_claims_plans.specs.declared.embedding.Embedding.{Embedding}

-- the place of what has this number, where the first ones have the places of a list, and the others follow from `next` on
abbrev pub place_in : List ℕ → ℕ → ℕ → ℕ
place_in places next i = cond (nat_lt i (length places)) (slice_index_or places i 0) (next + (i - length places))

-- the column and the row of the path for one of the question, or of what a certificate of it adds
abbrev pub column_on : Embedding → ℕ → ℕ
column_on s i = place_in s.columns s.next_column i

abbrev pub row_on : Embedding → ℕ → ℕ
row_on s i = place_in s.rows s.next_row i

-- the columns of the path for the first n
abbrev pub columns_on : Embedding → ℕ → List ℕ
columns_on s n = map (column_on s) (range_with_len 0 n)

-- ---- what is moved

-- the form over the path's columns, without zeros at its end
abbrev pub moved_form : Embedding → Affine → Affine
moved_form s f = trimmed (renamed (columns_on s (length f.coefs)) f)

abbrev pub moved_terms : Embedding → List (ℕ × ℤ) → List (ℕ × ℤ)
moved_terms s = map (λ t. (row_on s t.0, t.1))

abbrev pub moved_step : Embedding → Step → Step
moved_step s (Add ts) = Add (moved_terms s ts)
moved_step s (Cut i g) = Cut (row_on s i) g
moved_step s (DivScale i k) = DivScale (row_on s i) k
moved_step s (DivAdd i k j l) = DivAdd (row_on s i) k (row_on s j) l
moved_step s (DivMod i g n f) = DivMod (row_on s i) g n (moved_form s f)
moved_step s (DivEq i n) = DivEq (row_on s i) n
moved_step s (Quot i) = Quot (row_on s i)
moved_step s (Floor m f) = Floor m (moved_form s f)
moved_step s (EqCut i j) = EqCut (row_on s i) (row_on s j)

-- ---- other embeddings

-- a question that is its own path
abbrev pub itself : ℕ → ℕ → Embedding
itself columns rows = record { columns = range_with_len 0 columns; rows = range_with_len 0 rows; next_column = columns; next_row = rows }

-- the path has so many further columns and rows
abbrev pub advanced : Embedding → ℕ → ℕ → Embedding
advanced s columns rows = record { columns = s.columns; rows = s.rows; next_column = s.next_column + columns; next_row = s.next_row + rows }

-- the question has so many further columns and rows, which the path has at its end
abbrev pub grown : Embedding → ℕ → ℕ → Embedding
grown s columns rows = record {
  columns = s.columns ++ range_with_len s.next_column columns;
  rows = s.rows ++ range_with_len s.next_row rows;
  next_column = s.next_column + columns;
  next_row = s.next_row + rows;
}

-- the rows of the question are elsewhere
abbrev pub with_places : Embedding → List ℕ → Embedding
with_places s rows = record { columns = s.columns; rows = rows; next_column = s.next_column; next_row = s.next_row }
