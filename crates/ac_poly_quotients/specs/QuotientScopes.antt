-- What is around a statement: a quotient gets a column where it first stands, in the order of evaluation, and equal ones share it.
use Rattle.std.specs.Prelude.{◌≡◌, ℕ, ◌+◌, ◌<◌, ◌≤◌, ℤ, pos, List, [], ◌∷◌, ◌++◌, length, map, slice_index_or, Bool, if◌then◌else◌}
use Rattle.std.specs.List.{list_any, flat_map}
use Rattle.ac_forms.specs.Affine.{Affine, column_form}
use Rattle.ac_forms.specs.declared.row.Row.{Row}
use Rattle.ac_forms.specs.declared.row.Row.TheVariants.{Ge}
use Rattle.ac_syntax.specs.Index.{Point, quot_value}
use Rattle.ac_syntax.specs.Quotients.{same_quot, part_quot}
use Rattle.ac_syntax.specs.declared.tree.Comparison.{Comparison}
use Rattle.ac_syntax.specs.declared.tree.Cond.{Cond}
use Rattle.ac_syntax.specs.declared.tree.IndexExpr.{IndexExpr}
use Rattle.ac_syntax.specs.declared.tree.Quot.{Quot}
use Rattle.ac_syntax.specs.declared.tree.Rel.{Rel}
use Rattle.ac_syntax.specs.declared.tree.Rel.TheVariants.{NonNegative, Zero, Divides}
use Rattle.ac_poly_quotients.specs.ComparisonWays.{row_of, way_of_bound, way_of_zero, way_of_multiple, failing_by}
use Rattle.ac_poly_quotients.specs.LoweredForms.{argument_form, lowered_with, stepping}
use Rattle.ac_poly_quotients.specs.declared.types.Column.TheVariants.{Counter, Quotient}
use Rattle.ac_poly_quotients.specs.declared.types.QuotColumn.{QuotColumn}
use Rattle.ac_poly_quotients.specs.declared.types.Scope.{Scope}
use Rattle.ac_poly_quotients.specs.declared.types.Way.{Way}

-- outside all loops and branches: one piece without rows
abbrev pub outermost : ℕ → Scope
outermost params = record { params = params; iters = []; loops = []; columns = []; quots = []; pieces = [] ∷ [] }

abbrev pub column_count : Scope → ℕ
column_count sc = sc.params + length sc.columns

-- ---- columns for quotients

-- with the next column for a quotient
abbrev pub with_new : Scope → Quot → Scope
with_new sc q = record sc {
  columns = sc.columns ++ Quotient (record { form = argument_form sc.iters q; div = q.div }) ∷ [];
  quots = sc.quots ++ record { quot = q; column = column_count sc } ∷ [];
}

abbrev pub is_named : Quot → QuotColumn → Bool
is_named q n = same_quot q n.quot

-- with a column for a quotient, if it has none
abbrev pub with_quot : Scope → Quot → Scope
with_quot sc q = if list_any (is_named q) sc.quots then sc else with_new sc q

abbrev pub with_quots : Scope → List Quot → Scope
with_quots sc [] = sc
with_quots sc (q ∷ qs) = with_quots (with_quot sc q) qs

-- the column of the first quotient that passes a test
abbrev pub column_of : (QuotColumn → Bool) → List QuotColumn → ℕ
column_of test [] = 0
column_of test (q ∷ quots) = if test q then q.column else column_of test quots

abbrev pub column_for : Scope → Quot → ℕ
column_for sc q = column_of (is_named q) sc.quots

abbrev pub coef_of : Quot → ℤ
coef_of q = q.coef

-- the form of an index expression among iterators with these forms
abbrev pub lowered_in : Scope → List Affine → IndexExpr → Affine
lowered_in sc its e = lowered_with its e (map coef_of e.quots) (map (column_for sc) e.quots)

-- ---- comparisons

abbrev pub rel_quots : Rel → IndexExpr → List Quot
rel_quots NonNegative e = []
rel_quots Zero e = []
rel_quots (Divides m) e = part_quot e m ∷ []

-- the quotients of a comparison: those of its form, and the one of the divisor that it tests
abbrev pub part_quots : Comparison → List Quot
part_quots c = c.form.quots ++ rel_quots c.rel c.form

abbrev pub rel_way : Scope → IndexExpr → Rel → Affine → Way
rel_way sc e NonNegative f = way_of_bound f
rel_way sc e Zero f = way_of_zero f
rel_way sc e (Divides m) f = way_of_multiple (column_for sc (part_quot e m)) m f

-- the row of a comparison, and the rows by which it fails
abbrev pub part_way : Scope → List Affine → Comparison → Way
part_way sc its c = rel_way sc c.form c.rel (lowered_in sc its c.form)

abbrev pub rows_of : Scope → List Affine → List Comparison → List Row
rows_of sc its cs = map (λ c. row_of (part_way sc its c)) cs

-- ---- loops and branches

-- with the next column for the counter of the loop with this number
abbrev pub with_counter : Scope → ℕ → Affine → ℤ → Scope
with_counter sc number start step = record sc {
  iters = sc.iters ++ stepping start step (column_count sc) ∷ [];
  loops = sc.loops ++ number ∷ [];
  columns = sc.columns ++ Counter ∷ [];
}

-- inside the loop with this number, whose start has a form among the columns around it: its counter is not negative, and the
-- condition holds in turn 0 and in the turn of the counter
abbrev pub turned : Scope → ℕ → Affine → Cond → ℤ → Scope
turned a number s cond step =
    let c = with_quots (with_counter a number s step) (flat_map part_quots cond.parts) in
    record c { pieces = map (λ q. q ++ Ge (column_form (column_count a + 1) (column_count a)) ∷ (rows_of c (a.iters ++ s ∷ []) cond.parts ++ rows_of c c.iters cond.parts)) a.pieces }

-- inside the loop with this number
abbrev pub in_loop : Scope → ℕ → IndexExpr → Cond → ℤ → Scope
in_loop sc number start cond step = let a = with_quots sc start.quots in turned a number (lowered_in a a.iters start) cond step

-- where a condition holds
abbrev pub where_holds : Scope → Cond → Scope
where_holds sc cond =
    let c = with_quots sc (flat_map part_quots cond.parts) in
    record c { pieces = map (λ q. q ++ rows_of c c.iters cond.parts) c.pieces }

-- where it fails
abbrev pub where_fails : Scope → Cond → Scope
where_fails sc cond =
    let c = with_quots sc (flat_map part_quots cond.parts) in
    record c { pieces = flat_map (failing_by (map (part_way c c.iters) cond.parts)) c.pieces }

-- ---- what is known at a point

-- the column of a quotient has its value, and the quotient has no iterators but those around
pub record IsKnown (p : Point) (n : ℕ) (full : List ℤ) (q : QuotColumn) : Type 0 where
  pub within : q.column < n
  pub value : slice_index_or full q.column (pos 0) ≡ quot_value p q.quot
  pub iters : length q.quot.iters ≤ length p.iters
