-- Scopes whose quotients have columns of their own, each behind the columns that it uses.
use Rattle.std.proofs.Common.{◌≡◌, inl, inr, ℕ, ◌+◌, ◌<◌, ℤ, pos, List, [], ◌∷◌, ◌++◌, length, map, Bool, true, false, refl, sym, subst, arith, length-append}
use Rattle.std.specs.Prelude.{if◌then◌else◌}
use Rattle.std.specs.List.{AllByRecursion, list_any, flat_map}
use Rattle.std.proofs.lemmas.List.{map-append}
use Rattle.ac_forms.specs.Affine.{Affine, column_form}
use Rattle.ac_forms.specs.ListMembers.{IsAmong}
use Rattle.ac_forms.specs.Renaming.{IsApartFrom, AreDistinct}
use Rattle.ac_syntax.specs.FittingForms.{FitsQuot, FitsForm, FitTests}
use Rattle.ac_syntax.specs.declared.tree.Comparison.{Comparison}
use Rattle.ac_syntax.specs.declared.tree.Cond.{Cond}
use Rattle.ac_syntax.specs.declared.tree.IndexExpr.{IndexExpr}
use Rattle.ac_syntax.specs.declared.tree.Quot.{Quot}
use Rattle.ac_syntax.specs.declared.tree.Rel.{Rel}
use Rattle.ac_syntax.specs.declared.tree.Rel.TheVariants.{NonNegative, Zero, Divides}
use Rattle.ac_poly_quotients.specs.FilledColumns.{quots_of}
use Rattle.ac_poly_quotients.specs.LoweredForms.{argument_form, stepping}
use Rattle.ac_poly_quotients.specs.QuotientScopes.{column_count, outermost, with_new, is_named, with_quot, with_quots, with_counter, column_for, coef_of, lowered_in, rel_quots, part_quots, in_loop, where_holds, where_fails}
use Rattle.ac_poly_quotients.specs.declared.types.Column.{Column}
use Rattle.ac_poly_quotients.specs.declared.types.Column.TheVariants.{Counter, Quotient}
use Rattle.ac_poly_quotients.specs.declared.types.QuotColumn.{QuotColumn}
use Rattle.ac_poly_quotients.specs.declared.types.Rounded.{Rounded}
use Rattle.ac_poly_quotients.specs.declared.types.Scope.{Scope}
use Rattle.ac_poly_quotients.proofs.FilledColumns.{quots-append}
use Rattle.ac_poly_quotients.proofs.FormValues.{Narrow, narrow-column, narrow-combined}
use Rattle.ac_poly_quotients.proofs.NarrowRows.{all_append, all_wider, narrow-among}
use Rattle.ac_poly_quotients.proofs.NotedColumns.{AreNamed, all_named}
use Rattle.ac_poly_quotients.proofs.StandingScopes.{found, narrow-lowered_with}

-- the column that a quotient has
abbrev pub column_in : QuotColumn → ℕ
column_in x = x.column

-- over so many parameters: iterators and quotients are over the columns that are there, and no two quotients share a column
pub record IsOrdered (ps : ℕ) (sc : Scope) : Type 0 where
  pub params : sc.params ≡ ps
  pub iters : AllByRecursion (Narrow (column_count sc)) sc.iters
  pub quotients : AllByRecursion (λ r. Narrow (column_count sc) r.form) (quots_of sc.columns)
  pub within : AllByRecursion (λ x. x.column < column_count sc) sc.quots
  pub distinct : AreDistinct (map column_in sc.quots)

pub ordered_outermost : (ps : ℕ) → IsOrdered ps (outermost ps)
ordered_outermost ps = record { params = refl; iters = tt; quotients = tt; within = tt; distinct = tt }

-- ---- one column more

pub one_more : (params : ℕ) (ss : List Column) (s : Column) → params + length (ss ++ s ∷ []) ≡ params + length ss + 1
one_more params ss s = omega (arith, length-append ss (s ∷ []))

apart_last : (k : ℕ) (ks : List ℕ) (n : ℕ) → IsApartFrom k ks → k < n → IsApartFrom k (ks ++ n ∷ [])
apart_last k [] n h l = ((λ e. omega (arith, e, l)), tt)
apart_last k (x ∷ ks) n h l = (h.0, apart_last k ks n h.1 l)

distinct_last : (xs : List QuotColumn) (n : ℕ) → AllByRecursion (λ x. x.column < n) xs → AreDistinct (map column_in xs) → AreDistinct (map column_in xs ++ n ∷ [])
distinct_last [] n h d = (tt, tt)
distinct_last (x ∷ xs) n h d = (apart_last x.column (map column_in xs) n d.0 h.0, distinct_last xs n h.1 d.1)

wider : (n : ℕ) (fs : List Affine) → AllByRecursion (Narrow n) fs → AllByRecursion (Narrow (n + 1)) fs
wider n fs h = all_wider (Narrow n) (Narrow (n + 1)) (λ f w. omega (arith, w)) fs h

wider_quotients : (n : ℕ) (rs : List Rounded) → AllByRecursion (λ r. Narrow n r.form) rs → AllByRecursion (λ r. Narrow (n + 1) r.form) rs
wider_quotients n rs h = all_wider (λ r. Narrow n r.form) (λ r. Narrow (n + 1) r.form) (λ f w. omega (arith, w)) rs h

wider_columns : (n : ℕ) (xs : List QuotColumn) → AllByRecursion (λ x. x.column < n) xs → AllByRecursion (λ x. x.column < n + 1) xs
wider_columns n xs h = all_wider (λ x. x.column < n) (λ x. x.column < n + 1) (λ f w. omega (arith, w)) xs h

pub ordered_new : (ps : ℕ) (sc : Scope) (q : Quot) → IsOrdered ps sc → length q.params ≡ ps → IsOrdered ps (with_new sc q)
ordered_new ps sc q h f =
    let n = column_count sc in
    let r : Rounded = record { form = argument_form sc.iters q; div = q.div } in
    let more : column_count (with_new sc q) ≡ n + 1 = one_more sc.params sc.columns (Quotient r) in
    let narrow : Narrow n r.form = narrow-among n ps sc.iters q.konst q.params q.iters (omega (arith, h.params)) f h.iters in
    let quotients : AllByRecursion (λ x. Narrow (n + 1) x.form) (quots_of (with_new sc q).columns) =
    subst (AllByRecursion (λ x. Narrow (n + 1) x.form)) (sym (quots-append sc.columns (Quotient r ∷ [])))
    (all_append (λ x. Narrow (n + 1) x.form) (quots_of sc.columns) (r ∷ []) (wider_quotients n (quots_of sc.columns) h.quotients) (omega (arith, narrow), tt)) in
    let within : AllByRecursion (λ x. x.column < n + 1) (with_new sc q).quots =
    all_append (λ x. x.column < n + 1) sc.quots (record { quot = q; column = n } ∷ []) (wider_columns n sc.quots h.within) (omega arith, tt) in
    record {
      params = h.params;
      iters = subst (λ k. AllByRecursion (Narrow k) sc.iters) (sym more) (wider n sc.iters h.iters);
      quotients = subst (λ k. AllByRecursion (λ x. Narrow k x.form) (quots_of (with_new sc q).columns)) (sym more) quotients;
      within = subst (λ k. AllByRecursion (λ x. x.column < k) (with_new sc q).quots) (sym more) within;
      distinct = subst AreDistinct (sym (map-append column_in sc.quots (record { quot = q; column = n } ∷ []))) (distinct_last sc.quots n h.within h.distinct);
    }

ordered_if : (b : Bool) (ps : ℕ) (sc : Scope) (q : Quot) → IsOrdered ps sc → length q.params ≡ ps → IsOrdered ps (if b then sc else with_new sc q)
ordered_if true ps sc q h f = h
ordered_if false ps sc q h f = ordered_new ps sc q h f

pub ordered_quots : (ps : ℕ) (sc : Scope) (qs : List Quot) → IsOrdered ps sc → AllByRecursion (λ q. length q.params ≡ ps) qs → IsOrdered ps (with_quots sc qs)
ordered_quots ps sc [] h f = h
ordered_quots ps sc (q ∷ qs) h f = ordered_quots ps (with_quot sc q) qs (ordered_if (list_any (is_named q) sc.quots) ps sc q h f.0) f.1

ordered_counter : (ps : ℕ) (sc : Scope) (number : ℕ) (start : Affine) (step : ℤ) → IsOrdered ps sc → Narrow (column_count sc) start → IsOrdered ps (with_counter sc number start step)
ordered_counter ps sc number start step h w =
    let n = column_count sc in
    let more : column_count (with_counter sc number start step) ≡ n + 1 = one_more sc.params sc.columns Counter in
    let it : Narrow (n + 1) (stepping start step n) = narrow-combined (n + 1) (pos 1) start step (column_form (n + 1) n) (omega (arith, w)) (narrow-column n) in
    let iters = all_append (Narrow (n + 1)) sc.iters (stepping start step n ∷ []) (wider n sc.iters h.iters) (it, tt) in
    let quotients : AllByRecursion (λ x. Narrow (n + 1) x.form) (quots_of (with_counter sc number start step).columns) =
    subst (AllByRecursion (λ x. Narrow (n + 1) x.form)) (sym (quots-append sc.columns (Counter ∷ [])))
    (all_append (λ x. Narrow (n + 1) x.form) (quots_of sc.columns) [] (wider_quotients n (quots_of sc.columns) h.quotients) tt) in
    record {
      params = h.params;
      iters = subst (λ k. AllByRecursion (Narrow k) (with_counter sc number start step).iters) (sym more) iters;
      quotients = subst (λ k. AllByRecursion (λ x. Narrow k x.form) (quots_of (with_counter sc number start step).columns)) (sym more) quotients;
      within = subst (λ k. AllByRecursion (λ x. x.column < k) sc.quots) (sym more) (wider_columns n sc.quots h.within);
      distinct = h.distinct;
    }

-- ---- the column of a quotient

pub each_within : (n : ℕ) (xs : List QuotColumn) (x : QuotColumn) → AllByRecursion (λ x. x.column < n) xs → IsAmong x xs → x.column < n
each_within n [] x h i = absurd i
each_within n (y ∷ xs) x h (inl e) = subst (λ z. z.column < n) (sym e) h.0
each_within n (y ∷ xs) x h (inr i) = each_within n xs x h.1 i

pub column_within : (ps : ℕ) (c : Scope) (q : Quot) → IsOrdered ps c → list_any (is_named q) c.quots ≡ true → column_for c q < column_count c
column_within ps c q h k = let f = found (is_named q) c.quots k in subst (λ i. i < column_count c) f.is (each_within (column_count c) c.quots f.which h.within f.among)

columns_within : (ps : ℕ) (c : Scope) (qs : List Quot) → IsOrdered ps c → AreNamed c qs → AllByRecursion (λ k. k < column_count c) (map (column_for c) qs)
columns_within ps c [] h n = tt
columns_within ps c (q ∷ qs) h n = (column_within ps c q h n.0, columns_within ps c qs h n.1)

form_narrow : (ps : ℕ) (c : Scope) (e : IndexExpr) → IsOrdered ps c → length e.params ≡ ps → AreNamed c e.quots → Narrow (column_count c) (lowered_in c c.iters e)
form_narrow ps c e h f n =
    narrow-lowered_with (column_count c) ps c.iters e (map coef_of e.quots) (map (column_for c) e.quots) (omega (arith, h.params)) f h.iters (columns_within ps c e.quots h n)

-- ---- loops and branches

pub have_params : (ps xs : ℕ) (qs : List Quot) → AllByRecursion (FitsQuot ps xs) qs → AllByRecursion (λ q. length q.params ≡ ps) qs
have_params ps xs qs h = all_wider (FitsQuot ps xs) (λ q. length q.params ≡ ps) (λ q f. f.params) qs h

rel_params : (ps : ℕ) (e : IndexExpr) (r : Rel) → length e.params ≡ ps → AllByRecursion (λ q. length q.params ≡ ps) (rel_quots r e)
rel_params ps e NonNegative h = tt
rel_params ps e Zero h = tt
rel_params ps e (Divides m) h = (h, tt)

parts_params : (ps xs : ℕ) (cs : List Comparison) → FitTests ps xs cs → AllByRecursion (λ q. length q.params ≡ ps) (flat_map part_quots cs)
parts_params ps xs [] h = tt
parts_params ps xs (c ∷ cs) h =
    all_append (λ q. length q.params ≡ ps) (part_quots c) (flat_map part_quots cs)
    (all_append (λ q. length q.params ≡ ps) c.form.quots (rel_quots c.rel c.form) (have_params ps xs c.form.quots h.0.form.quots) (rel_params ps c.form c.rel h.0.form.params))
    (parts_params ps xs cs h.1)

pub ordered_holds : (ps xs : ℕ) (sc : Scope) (cond : Cond) → IsOrdered ps sc → FitTests ps xs cond.parts → IsOrdered ps (where_holds sc cond)
ordered_holds ps xs sc cond h f =
    let c = ordered_quots ps sc (flat_map part_quots cond.parts) h (parts_params ps xs cond.parts f) in
    record { params = c.params; iters = c.iters; quotients = c.quotients; within = c.within; distinct = c.distinct }

pub ordered_fails : (ps xs : ℕ) (sc : Scope) (cond : Cond) → IsOrdered ps sc → FitTests ps xs cond.parts → IsOrdered ps (where_fails sc cond)
ordered_fails ps xs sc cond h f =
    let c = ordered_quots ps sc (flat_map part_quots cond.parts) h (parts_params ps xs cond.parts f) in
    record { params = c.params; iters = c.iters; quotients = c.quotients; within = c.within; distinct = c.distinct }

pub ordered_loop : (ps xs ys : ℕ) (sc : Scope) (number : ℕ) (start : IndexExpr) (cond : Cond) (step : ℤ) → IsOrdered ps sc → FitsForm ps xs start → FitTests ps ys cond.parts → IsOrdered ps (in_loop sc number start cond step)
ordered_loop ps xs ys sc number start cond step h f g =
    let a = with_quots sc start.quots in
    let ha = ordered_quots ps sc start.quots h (have_params ps xs start.quots f.quots) in
    let form = lowered_in a a.iters start in
    let hb = ordered_counter ps a number form step ha (form_narrow ps a start ha f.params (all_named sc start.quots)) in
    let c = ordered_quots ps (with_counter a number form step) (flat_map part_quots cond.parts) hb (parts_params ps ys cond.parts g) in
    record { params = c.params; iters = c.iters; quotients = c.quotients; within = c.within; distinct = c.distinct }
