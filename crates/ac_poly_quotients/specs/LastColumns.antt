-- From the order in which columns come to their last places: the parameters, all counters, all quotients.
use Rattle.std.specs.Prelude.{ℕ, ◌+◌, ℤ, pos, List, [], ◌∷◌, ◌++◌, map}
use Rattle.std.specs.List.{range_with_len}
use Rattle.ac_forms.specs.Renaming.{renamed, renamed_row}
use Rattle.ac_forms.specs.declared.row.Row.{Row}
use Rattle.ac_poly_quotients.specs.QuotientRows.{quotient_rows}
use Rattle.ac_poly_quotients.specs.FilledColumns.{counters, quots_of}
use Rattle.ac_poly_quotients.specs.declared.types.Rounded.{Rounded}
use Rattle.ac_poly_quotients.specs.declared.types.Scope.{Scope}
use Rattle.ac_poly_quotients.specs.declared.types.Column.{Column}
use Rattle.ac_poly_quotients.specs.declared.types.Column.TheVariants.{Counter, Quotient}

-- the last place of each column, where the next counter goes to column i and the next quotient to column j
abbrev pub last_columns : ℕ → ℕ → List Column → List ℕ
last_columns i j [] = []
last_columns i j (Counter ∷ ss) = i ∷ last_columns (i + 1) j ss
last_columns i j (Quotient r ∷ ss) = j ∷ last_columns i (j + 1) ss

-- the last columns of so many parameters, and of columns with so many counters
abbrev pub final_columns : ℕ → ℕ → List Column → List ℕ
final_columns params depth ss = range_with_len 0 params ++ last_columns params (params + depth) ss

-- the last places of the parameters and columns of a scope
abbrev pub places : Scope → List ℕ
places sc = final_columns sc.params (counters sc.columns) sc.columns

-- counters and quotients in the order of the columns, 0 where there are no more
abbrev pub weave : List Column → List ℤ → List ℤ → List ℤ
weave [] zs qs = []
weave (Counter ∷ ss) [] qs = pos 0 ∷ weave ss [] qs
weave (Counter ∷ ss) (z ∷ zs) qs = z ∷ weave ss zs qs
weave (Quotient r ∷ ss) zs [] = pos 0 ∷ weave ss zs []
weave (Quotient r ∷ ss) zs (q ∷ qs) = q ∷ weave ss zs qs

abbrev pub moved_quotient : List ℕ → Rounded → Rounded
moved_quotient ks r = record { form = renamed ks r.form; div = r.div }

-- the quotients of columns, among the columns ks
abbrev pub finals : List ℕ → List Column → List Rounded
finals ks ss = map (moved_quotient ks) (quots_of ss)

-- rows among the last columns, and then the rows of the quotients
abbrev pub placed_rows : ℕ → ℕ → List Column → List Row → List Row
placed_rows params depth ss rows =
    map (renamed_row (final_columns params depth ss)) rows ++ quotient_rows (params + depth) (finals (final_columns params depth ss) ss)

abbrev pub placed_pieces : ℕ → ℕ → List Column → List (List Row) → List (List Row)
placed_pieces params depth ss = map (placed_rows params depth ss)
