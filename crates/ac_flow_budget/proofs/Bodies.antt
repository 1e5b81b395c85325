-- A program of differences has a model of differences.
use Rattle.std.proofs.Common.{◌≡◌, ℕ, suc, ◌+◌, ◌<◌, ◌≤◌, ◌^◌, lit≤, ℤ, pos, List, [], ◌∷◌, ◌++◌, map, length, arith, refl, length-append, true, slice_get, unsigned_abs, ap, subst, sym, zero, Some}
use Rattle.std.specs.List.{AllByRecursion, flat_map}
use Rattle.std.proofs.lemmas.List.{length-map}
use Rattle.ac_forms.specs.Affine.{Affine, column_form}
use Rattle.ac_forms.specs.Negation.{above, below}
use Rattle.ac_forms.specs.Renaming.{renamed_row}
use Rattle.ac_forms.specs.declared.row.Row.{Row}
use Rattle.ac_forms.specs.declared.row.Row.TheVariants.{Eq, Div, Ge}
use Rattle.ac_syntax.specs.LoopNests.{loop_count, loop_count_in}
use Rattle.ac_syntax.specs.ValueNodes.{size}
use Rattle.ac_syntax.specs.ReadyPrograms.{IsPlain}
use Rattle.ac_syntax.specs.Small.{IsSmall, AreSmallForms}
use Rattle.ac_syntax.specs.declared.tree.Array.{Array}
use Rattle.ac_syntax.specs.declared.tree.Comparison.{Comparison}
use Rattle.ac_syntax.specs.declared.tree.Cond.{Cond}
use Rattle.ac_syntax.specs.declared.tree.IndexExpr.{IndexExpr}
use Rattle.ac_syntax.specs.declared.tree.Program.{Program}
use Rattle.ac_syntax.specs.declared.tree.Quot.{Quot}
use Rattle.ac_syntax.specs.declared.tree.Rel.{Rel}
use Rattle.ac_syntax.specs.declared.tree.Rel.TheVariants.{NonNegative, Zero, Divides}
use Rattle.ac_syntax.specs.declared.tree.Stmt.{Stmt, Row_of-Stmt, end_of-Stmt, more_of-Stmt}
use Rattle.ac_syntax.specs.declared.tree.Stmt.TheVariants.{For', If', Assign}
use Rattle.ac_syntax.specs.declared.tree.Value.{Value, Row_of-Value, end_of-Value, more_of-Value}
use Rattle.ac_syntax.specs.declared.tree.Value.TheVariants.{Number, Access, Call'}
use Rattle.ac_poly_quotients.specs.ComparisonWays.{with_each, failing_by}
use Rattle.ac_poly_quotients.specs.FilledColumns.{counters, quots_of}
use Rattle.ac_poly_quotients.specs.LastColumns.{final_columns, places, moved_quotient, finals, placed_pieces}
use Rattle.ac_poly_quotients.specs.LoweredForms.{replaced, lowered, stepping}
use Rattle.ac_poly_quotients.specs.QuotientRows.{quotient_rows}
use Rattle.ac_poly_quotients.specs.QuotientScopes.{outermost, column_count, with_quots, lowered_in, rel_way, part_way, rows_of, with_counter, turned, in_loop, where_holds, where_fails}
use Rattle.ac_poly_quotients.specs.declared.types.Column.{Column}
use Rattle.ac_poly_quotients.specs.declared.types.Rounded.{Rounded}
use Rattle.ac_poly_quotients.specs.declared.types.Scope.{Scope}
use Rattle.ac_poly_quotients.specs.declared.types.Way.{Way}
use Rattle.ac_poly.specs.IndexForms.{row_by, rows_of as context_rows}
use Rattle.ac_poly.specs.Lower.{last_form, model_in, lower, lower_in, lower_all, lowered_body}
use Rattle.ac_poly.specs.Model.{extents_of, kind_of, is_input, model_of}
use Rattle.ac_poly.specs.ModelNodes.{nodes, nodes_in}
use Rattle.ac_poly.proofs.Narrows.{all_append}
use Rattle.ac_omega.specs.DifferenceRows.{IsDifferenceWithin, IsDifferenceRow, AreDifferences}
use Rattle.ac_flow_budget.specs.Models.{IsShifted, AreShifted, ReadsShifted, StmtHasDifferences, HasDifferences, IsFormWithin}
use Rattle.ac_flow_budget.specs.DifferencePrograms.{IsConstantExpr, IsDifferenceExpr, IsVariableExpr, IsDifferencePart, AreDifferenceParts, AreVariableExprs, ValueIsOfDifferences, ValuesAreOfDifferences, StmtIsOfDifferences, StmtsAreOfDifferences, IsOfDifferences, ArrayIsOfDifferences}
use Rattle.ac_flow_budget.proofs.Levels.{all-get}
use Rattle.ac_flow_budget.proofs.Lowered.{variable-lowered, difference-lowered, constant-lowered, iterator-stepped}
use Rattle.ac_flow_budget.proofs.PlainScopes.{parts-none, own-none, counter-none, plain-lowered}
use Rattle.ac_flow_budget.proofs.Renamed.{renamed-difference, renamed-shifted}
use Rattle.ac_flow_budget.proofs.Rows.{row-more, rows-both, above-within, below-within}
use Rattle.ac_flow_budget.proofs.Shifted.{column-shifted, shifted-difference}

-- ---- rows of conditions

its-more : (gs : List Affine) (g : Affine) → AreShifted (2 ^ 31) gs → IsShifted (2 ^ 31) g → AreShifted (2 ^ 31) (gs ++ g ∷ [])
its-more gs g h k = all_append (IsShifted (2 ^ 31)) gs (g ∷ []) h (k, tt)

-- a row by a form, and by the two of its negation
by-form : (r : Row) → IsDifferenceRow (2 ^ 32 + 2 ^ 31) r → IsDifferenceRow (2 ^ 33) r
by-form r d = row-more (2 ^ 32 + 2 ^ 31) (2 ^ 33) r (lit≤ tt) d

by-above : (f : Affine) → IsDifferenceWithin (2 ^ 32 + 2 ^ 31) f → IsDifferenceRow (2 ^ 33) (Ge (above f))
by-above f d = row-more (2 ^ 32 + 2 ^ 31 + 1) (2 ^ 33) (Ge (above f)) (lit≤ tt) (above-within (2 ^ 32 + 2 ^ 31) f d)

by-below : (f : Affine) → IsDifferenceWithin (2 ^ 32 + 2 ^ 31) f → IsDifferenceRow (2 ^ 33) (Ge (below f))
by-below f d = row-more (2 ^ 32 + 2 ^ 31 + 1) (2 ^ 33) (Ge (below f)) (lit≤ tt) (below-within (2 ^ 32 + 2 ^ 31) f d)

-- the row and the negations of a way are differences
record WayDiffers (w : Way) : Type 0 where
  row : IsDifferenceRow (2 ^ 33) w.row
  negations : AreDifferences (2 ^ 33) w.negations

rel-differs : (sc : Scope) (e : IndexExpr) (r : Rel) (f : Affine) → IsPlain r → IsDifferenceWithin (2 ^ 32 + 2 ^ 31) f → WayDiffers (rel_way sc e r f)
rel-differs sc e NonNegative f p d = record { row = by-form (Ge f) d; negations = (by-below f d, tt) }
rel-differs sc e Zero f p d = record { row = by-form (Eq f) d; negations = (by-above f d, (by-below f d, tt)) }
rel-differs sc e (Divides m) f p d = absurd p

part-lowered : (sc : Scope) (gs : List Affine) (e : IndexExpr) → AreShifted (2 ^ 31) gs → IsDifferenceExpr e → IsDifferenceWithin (2 ^ 32 + 2 ^ 31) (lowered_in sc gs e)
part-lowered sc gs e h d = subst (IsDifferenceWithin (2 ^ 32 + 2 ^ 31)) (sym (plain-lowered sc gs e d.plain)) (difference-lowered gs e h d)

part-differs : (sc : Scope) (gs : List Affine) (c : Comparison) → AreShifted (2 ^ 31) gs → IsDifferencePart c → WayDiffers (part_way sc gs c)
part-differs sc gs c h d = rel-differs sc c.form c.rel (lowered_in sc gs c.form) d.rel (part-lowered sc gs c.form h d.form)

rows-differ : (sc : Scope) (gs : List Affine) (parts : List Comparison) → AreShifted (2 ^ 31) gs → AreDifferenceParts parts → AreDifferences (2 ^ 33) (rows_of sc gs parts)
rows-differ sc gs [] h d = tt
rows-differ sc gs (c ∷ parts) h d = ((part-differs sc gs c h d.0).row, rows-differ sc gs parts h d.1)

abbrev AllDiffer : List (List Row) → Type 0
AllDiffer qs = AllByRecursion (AreDifferences (2 ^ 33)) qs

each-differs : (q rs : List Row) → AreDifferences (2 ^ 33) q → AreDifferences (2 ^ 33) rs → AllDiffer (with_each q rs)
each-differs q [] h d = tt
each-differs q (r ∷ rs) h d = (rows-both (2 ^ 33) q (r ∷ []) h (d.0, tt), each-differs q rs h d.1)

failing-differs : (sc : Scope) (gs : List Affine) (parts : List Comparison) (q : List Row) → AreShifted (2 ^ 31) gs → AreDifferenceParts parts → AreDifferences (2 ^ 33) q → AllDiffer (failing_by (map (part_way sc gs) parts) q)
failing-differs sc gs [] q h d a = tt
failing-differs sc gs (c ∷ parts) q h d a =
    let w = part-differs sc gs c h d.0 in
    all_append (AreDifferences (2 ^ 33)) (with_each q (part_way sc gs c).negations) (failing_by (map (part_way sc gs) parts) (q ++ (part_way sc gs c).row ∷ [])) (each-differs q (part_way sc gs c).negations a w.negations)
    (failing-differs sc gs parts (q ++ (part_way sc gs c).row ∷ []) h d.1 (rows-both (2 ^ 33) q ((part_way sc gs c).row ∷ []) a (w.row, tt)))

all-behind : (qs : List (List Row)) (rs : List Row) → AllDiffer qs → AreDifferences (2 ^ 33) rs → AllDiffer (map (λ q. q ++ rs) qs)
all-behind [] rs h d = tt
all-behind (q ∷ qs) rs h d = (rows-both (2 ^ 33) q rs h.0 d, all-behind qs rs h.1 d)

all-failing : (sc : Scope) (gs : List Affine) (parts : List Comparison) (qs : List (List Row)) → AreShifted (2 ^ 31) gs → AreDifferenceParts parts → AllDiffer qs → AllDiffer (flat_map (failing_by (map (part_way sc gs) parts)) qs)
all-failing sc gs parts [] h d a = tt
all-failing sc gs parts (q ∷ qs) h d a =
    all_append (AreDifferences (2 ^ 33)) (failing_by (map (part_way sc gs) parts) q) (flat_map (failing_by (map (part_way sc gs) parts)) qs) (failing-differs sc gs parts q h d a.0) (all-failing sc gs parts qs h d a.1)

-- ---- what is around a statement

record IsAround (xs : ℕ) (sc : Scope) : Type 0 where
  iters : AreShifted (2 ^ 31) sc.iters
  loops : length sc.loops ≡ xs
  few : xs ≤ 6
  none : quots_of sc.columns ≡ []
  pieces : AllDiffer sc.pieces

-- the scopes inside, with columns for these quotients
abbrev turned_by : Scope → ℕ → Affine → List Comparison → ℤ → List Quot → Scope
turned_by a number s parts step qs =
    let c = with_quots (with_counter a number s step) qs in
    record c { pieces = map (λ q. q ++ Ge (column_form (column_count a + 1) (column_count a)) ∷ (rows_of c (a.iters ++ s ∷ []) parts ++ rows_of c c.iters parts)) a.pieces }

abbrev holding_by : Scope → List Comparison → List Quot → Scope
holding_by sc parts qs = let c = with_quots sc qs in record c { pieces = map (λ q. q ++ rows_of c c.iters parts) c.pieces }

abbrev failing_in : Scope → List Comparison → List Quot → Scope
failing_in sc parts qs = let c = with_quots sc qs in record c { pieces = flat_map (failing_by (map (part_way c c.iters) parts)) c.pieces }

turned-around : (xs : ℕ) (a : Scope) (number : ℕ) (s : Affine) (cond : Cond) (step : ℤ) → xs < 6 → IsShifted (2 ^ 31) s → IsShifted (2 ^ 31) (stepping s step (column_count a)) → AreDifferenceParts cond.parts → IsAround xs a → IsAround (xs + 1) (turned a number s cond step)
turned-around xs a number s cond step l k own d h =
    let c = with_counter a number s step in
    let n = length-append a.loops (number ∷ []) in
    let first = shifted-difference 0 (column_form (column_count a + 1) (column_count a)) (column-shifted (column_count a + 1) (column_count a)) in
    let own_iters = its-more a.iters (stepping s step (column_count a)) h.iters own in
    let turns = rows-both (2 ^ 33) (rows_of c (a.iters ++ s ∷ []) cond.parts) (rows_of c c.iters cond.parts) (rows-differ c (a.iters ++ s ∷ []) cond.parts (its-more a.iters s h.iters k) d) (rows-differ c c.iters cond.parts own_iters d) in
    subst (λ (qs : List Quot). IsAround (xs + 1) (turned_by a number s cond.parts step qs)) (sym (parts-none cond.parts d)) (record {
      iters = own_iters;
      loops = omega (arith, n, h.loops);
      few = omega arith;
      none = counter-none a.columns h.none;
      pieces = all-behind a.pieces (Ge (column_form (column_count a + 1) (column_count a)) ∷ (rows_of c (a.iters ++ s ∷ []) cond.parts ++ rows_of c c.iters cond.parts)) h.pieces (row-more 0 (2 ^ 33) (Ge (column_form (column_count a + 1) (column_count a))) (lit≤ tt) first, turns);
    })

inside : (xs : ℕ) (sc : Scope) (number : ℕ) (start : IndexExpr) (cond : Cond) (step : ℤ) → xs < 6 → IsConstantExpr start → AreDifferenceParts cond.parts → step ≡ pos 1 → IsAround xs sc → IsAround (xs + 1) (in_loop sc number start cond step)
inside xs sc number start cond step l k d s h =
    let around = turned-around xs sc number (lowered sc.iters start) cond step l (constant-lowered sc.iters start h.iters k) (iterator-stepped sc.iters start step (column_count sc) h.iters k s) d h in
    let there = subst (λ (f : Affine). IsAround (xs + 1) (turned sc number f cond step)) (sym (plain-lowered sc sc.iters start k.plain)) around in
    subst (λ (qs : List Quot). IsAround (xs + 1) (let a = with_quots sc qs in turned a number (lowered_in a a.iters start) cond step)) (sym k.plain) there

holding : (xs : ℕ) (sc : Scope) (cond : Cond) → AreDifferenceParts cond.parts → IsAround xs sc → IsAround xs (where_holds sc cond)
holding xs sc cond d h =
    subst (λ (qs : List Quot). IsAround xs (holding_by sc cond.parts qs)) (sym (parts-none cond.parts d))
    (record { iters = h.iters; loops = h.loops; few = h.few; none = h.none; pieces = all-behind sc.pieces (rows_of sc sc.iters cond.parts) h.pieces (rows-differ sc sc.iters cond.parts h.iters d) })

failing : (xs : ℕ) (sc : Scope) (cond : Cond) → AreDifferenceParts cond.parts → IsAround xs sc → IsAround xs (where_fails sc cond)
failing xs sc cond d h =
    subst (λ (qs : List Quot). IsAround xs (failing_in sc cond.parts qs)) (sym (parts-none cond.parts d))
    (record { iters = h.iters; loops = h.loops; few = h.few; none = h.none; pieces = all-failing sc sc.iters cond.parts sc.pieces h.iters d h.pieces })

-- ---- rows among the last columns

row-placed : (ks : List ℕ) (r : Row) → IsDifferenceRow (2 ^ 33) r → IsDifferenceRow (2 ^ 33) (renamed_row ks r)
row-placed ks (Eq f) d = (renamed-difference ks f d.0, d.1)
row-placed ks (Div m f) d = absurd d
row-placed ks (Ge f) d = (renamed-difference ks f d.0, d.1)

rows-placed : (ks : List ℕ) (rs : List Row) → AreDifferences (2 ^ 33) rs → AreDifferences (2 ^ 33) (map (renamed_row ks) rs)
rows-placed ks [] d = tt
rows-placed ks (r ∷ rs) d = (row-placed ks r d.0, rows-placed ks rs d.1)

-- there are no rows of quotients
quotients-placed : (ks : List ℕ) (n : ℕ) (ss : List Column) → quots_of ss ≡ [] → AreDifferences (2 ^ 33) (quotient_rows n (finals ks ss))
quotients-placed ks n ss e = subst (λ (rs : List Rounded). AreDifferences (2 ^ 33) (quotient_rows n (map (moved_quotient ks) rs))) (sym e) tt

pieces-placed : (params depth : ℕ) (ss : List Column) (qs : List (List Row)) → quots_of ss ≡ [] → AllDiffer qs → AllDiffer (placed_pieces params depth ss qs)
pieces-placed params depth ss [] e a = tt
pieces-placed params depth ss (q ∷ qs) e a =
    let ks = final_columns params depth ss in
    (rows-both (2 ^ 33) (map (renamed_row ks) q) (quotient_rows (params + depth) (finals ks ss)) (rows-placed ks q a.0) (quotients-placed ks (params + depth) ss e), pieces-placed params depth ss qs e a.1)

-- ---- values and statements

subs-shifted : (form : IndexExpr → Affine) → ((e : IndexExpr) → IsVariableExpr e → IsShifted (2 ^ 33) (form e)) → (subs : List IndexExpr) → AreVariableExprs subs → AreShifted (2 ^ 33) (map form subs)
subs-shifted form h [] v = tt
subs-shifted form h (e ∷ subs) v = (h e v.0, subs-shifted form h subs v.1)

mutual
  unfolding nodes ValueIsOfDifferences

  value-reads : (form : IndexExpr → Affine) → ((e : IndexExpr) → IsVariableExpr e → IsShifted (2 ^ 33) (form e)) → (v : Value) (at : ℕ) → ValueIsOfDifferences v → AllByRecursion (ReadsShifted (2 ^ 33)) (nodes form v at)
  value-reads form h (Number e) at d = (tt, tt)
  value-reads form h (Access array subs place) at d = (subs-shifted form h subs d, tt)
  value-reads form h (Call' symbol n args place) at d = (tt, values-read form h args (at + 1) d)

  values-read : (form : IndexExpr → Affine) → ((e : IndexExpr) → IsVariableExpr e → IsShifted (2 ^ 33) (form e)) → {m : _} (vs : Row_of-Value m) (at : ℕ) → ValuesAreOfDifferences vs → AllByRecursion (ReadsShifted (2 ^ 33)) (nodes_in form vs at)
  values-read form h end_of-Value at d = tt
  values-read form h (more_of-Value v rest) at d = all_append (ReadsShifted (2 ^ 33)) (nodes form v at) (nodes_in form rest (at + size v)) (value-reads form h v at d.0) (values-read form h rest (at + size v) d.1)

-- the form of a subscript, among the last columns
last-shifted : (c : Scope) → AreShifted (2 ^ 31) c.iters → (e : IndexExpr) → IsVariableExpr e → IsShifted (2 ^ 33) (last_form c e)
last-shifted c h e v = renamed-shifted (places c) (2 ^ 33) (lowered_in c c.iters e) (subst (IsShifted (2 ^ 33)) (sym (plain-lowered c c.iters e v.plain)) (variable-lowered c.iters e h v))

-- its width is that of its loops
width-few : (xs : ℕ) (c : Scope) → IsAround xs c → length c.loops + length (finals (places c) c.columns) ≤ 6
width-few xs c h =
    let n : length (finals (places c) c.columns) ≡ 0 = ap (λ (rs : List Rounded). length (map (moved_quotient (places c)) rs)) h.none in
    let l = h.loops in
    let f = h.few in
    omega (arith, n, l, f)

assigned-differs : (xs : ℕ) (c : Scope) (array : ℕ) (subs : List IndexExpr) (value : Value) → AreVariableExprs subs → ValueIsOfDifferences value → IsAround xs c → StmtHasDifferences (2 ^ 33) (model_in c array subs value)
assigned-differs xs c array subs value v d h = record {
  loops = width-few xs c h;
  pieces = pieces-placed c.params (counters c.columns) c.columns c.pieces h.none h.pieces;
  subs = subs-shifted (last_form c) (last-shifted c h.iters) subs v;
  reads = value-reads (last_form c) (last-shifted c h.iters) value 0 d;
}

mutual
  unfolding lower StmtIsOfDifferences

  stmt-differs : (xs : ℕ) (s : Stmt) (loop : ℕ) (sc : Scope) → StmtIsOfDifferences xs s → IsAround xs sc → AllByRecursion (StmtHasDifferences (2 ^ 33)) (lower s loop sc)
  stmt-differs xs (For' iter start cond step n body place) loop sc d h = stmts-differ (xs + 1) body (suc loop) (in_loop sc loop start cond step) d.4 (inside xs sc loop start cond step d.0 d.1 d.2 d.3 h)
  stmt-differs xs (If' cond n taken m other place) loop sc d h =
      all_append (StmtHasDifferences (2 ^ 33)) (lower_in taken loop (where_holds sc cond)) (lower_in other (loop + loop_count_in taken) (where_fails sc cond))
      (stmts-differ xs taken loop (where_holds sc cond) d.1 (holding xs sc cond d.0 h)) (stmts-differ xs other (loop + loop_count_in taken) (where_fails sc cond) d.2 (failing xs sc cond d.0 h))
  stmt-differs xs (Assign array subs value place) loop sc d h = (
    subst (λ (qs : List Quot). StmtHasDifferences (2 ^ 33) (model_in (with_quots sc qs) array subs value)) (sym (own-none subs value d.0 d.1)) (assigned-differs xs sc array subs value d.0 d.1 h),
    tt,
  )

  stmts-differ : (xs : ℕ) {m : _} (b : Row_of-Stmt m) (loop : ℕ) (sc : Scope) → StmtsAreOfDifferences xs b → IsAround xs sc → AllByRecursion (StmtHasDifferences (2 ^ 33)) (lower_in b loop sc)
  stmts-differ xs end_of-Stmt loop sc d h = tt
  stmts-differ xs (more_of-Stmt s rest) loop sc d h =
      all_append (StmtHasDifferences (2 ^ 33)) (lower s loop sc) (lower_in rest (loop + loop_count s) sc) (stmt-differs xs s loop sc d.0 h) (stmts-differ xs rest (loop + loop_count s) sc d.1 h)

all-differ : (ss : List Stmt) (loop : ℕ) (sc : Scope) → AllByRecursion (StmtIsOfDifferences 0) ss → IsAround 0 sc → AllByRecursion (StmtHasDifferences (2 ^ 33)) (lower_all ss loop sc)
all-differ [] loop sc d h = tt
all-differ (s ∷ ss) loop sc d h = all_append (StmtHasDifferences (2 ^ 33)) (lower s loop sc) (lower_all ss (loop + loop_count s) sc) (stmt-differs 0 s loop sc d.0 h) (all-differ ss (loop + loop_count s) sc d.1 h)

-- ---- programs

context-row : (r : Rel) (f : Affine) → IsPlain r → IsDifferenceWithin (2 ^ 32 + 2 ^ 31) f → IsDifferenceRow (2 ^ 33) (row_by r f)
context-row NonNegative f p d = by-form (Ge f) d
context-row Zero f p d = by-form (Eq f) d
context-row (Divides m) f p d = absurd p

context-differs : (parts : List Comparison) → AreDifferenceParts parts → AreDifferences (2 ^ 33) (context_rows [] parts)
context-differs [] d = tt
context-differs (c ∷ parts) d = (context-row c.rel (lowered [] c.form) d.0.rel (difference-lowered [] c.form tt d.0.form), context-differs parts d.1)

lowered-none : (e : IndexExpr) → lowered [] e ≡ record { konst = e.konst; coefs = e.params }
lowered-none e = by e.iters
  where
    by : (cs : List ℤ) → replaced (record { konst = e.konst; coefs = e.params }) cs [] ≡ record { konst = e.konst; coefs = e.params }
    by [] = refl
    by (c ∷ cs) = refl

numbers-within : (cs : List ℤ) → AllByRecursion IsSmall cs → AllByRecursion (λ (c : ℤ). unsigned_abs c ≤ 2 ^ 33) cs
numbers-within [] h = tt
numbers-within (c ∷ cs) h = (most c h.0, numbers-within cs h.1)
  where
    most : (x : ℤ) → unsigned_abs x ≤ 2 ^ 31 → unsigned_abs x ≤ 2 ^ 33
    most x l = let m : 2 ^ 31 ≤ 2 ^ 33 = lit≤ tt in omega arith

forms-within : (es : List IndexExpr) → AreSmallForms es → AllByRecursion (IsFormWithin (2 ^ 33)) (map (lowered []) es)
forms-within [] h = tt
forms-within (e ∷ es) h = (subst (IsFormWithin (2 ^ 33)) (sym (lowered-none e)) ((numbers-within (e.konst ∷ []) (h.0.constant, tt)).0, numbers-within e.params h.0.params), forms-within es h.1)

all-within : (arrays : List Array) → AllByRecursion ArrayIsOfDifferences arrays → AllByRecursion (λ (es : List Affine). AllByRecursion (IsFormWithin (2 ^ 33)) es) (map extents_of arrays)
all-within [] d = tt
all-within (a ∷ arrays) d = (forms-within a.extents d.0.small, all-within arrays d.1)

inputs-shifted : (arrays : List Array) → AllByRecursion ArrayIsOfDifferences arrays → (k : ℕ) (es : List Affine) → slice_get (map extents_of arrays) k ≡ Some es → is_input (slice_get (map kind_of arrays) k) ≡ true → (length es ≤ 6) × AreShifted (2 ^ 33) es
inputs-shifted [] d k es e i = absurd cc
inputs-shifted (a ∷ arrays) d zero es e i =
    let x = d.0.parameter i in
    let l = length-map a.extents (lowered []) in
    let s : extents_of a ≡ es = cc in
    subst (λ (y : List Affine). (length y ≤ 6) × AreShifted (2 ^ 33) y) s (omega (arith, l, x.0), subs-shifted (lowered []) (λ e v. variable-lowered [] e tt v) a.extents x.1)
inputs-shifted (a ∷ arrays) d (suc k) es e i = inputs-shifted arrays d.1 k es e i

pub program-differs : (p : Program) (context : Cond) → IsOfDifferences p context → HasDifferences (2 ^ 33) (model_of p context)
program-differs p context d = record {
  params = d.parameters;
  context = context-differs context.parts d.context;
  stmts = λ number stmt e. all-get (StmtHasDifferences (2 ^ 33)) (lowered_body (length p.params) p.body) number stmt (all-differ p.body 0 (outermost (length p.params)) d.body start) e;
  inputs = λ array extents e i. inputs-shifted p.arrays d.arrays array extents e i;
  extents = λ array extents e. all-get (λ (es : List Affine). AllByRecursion (IsFormWithin (2 ^ 33)) es) (map extents_of p.arrays) array extents (all-within p.arrays d.arrays) e;
}
  where
    start : IsAround 0 (outermost (length p.params))
    start = record { iters = tt; loops = refl; few = omega arith; none = refl; pieces = (tt, tt) }
