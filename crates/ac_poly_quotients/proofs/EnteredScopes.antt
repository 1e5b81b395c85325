-- Into a loop, a branch and an assignment: the scope stands there, and its pieces are met where the conditions hold.
use Rattle.std.proofs.Common.{◌≡◌, ◌↔◌, ℕ, ◌+◌, ◌≤◌, List, [], ◌∷◌, ◌++◌, length, map, true, false, refl, sym, ap, ◌∙◌, subst, arith, ℤ, pos, neg_ℤ, ◌+ℤ◌, ◌*ℤ◌, ◌≤ℤ◌, length-append, append_assoc}
use Rattle.std.specs.List.{AllByRecursion, flat_map}
use Rattle.ac_forms.specs.Affine.{Affine, value_at, column_form}
use Rattle.ac_forms.specs.PieceMembership.{IsInSome}
use Rattle.ac_forms.specs.Rows.{Meets, form_of}
use Rattle.ac_forms.specs.declared.row.Row.{Row}
use Rattle.ac_forms.specs.declared.row.Row.TheVariants.{Ge}
use Rattle.ac_syntax.specs.Index.{Point, index_value, quot_value, comparison_holds, holds}
use Rattle.ac_syntax.specs.Quotients.{part_quot}
use Rattle.ac_syntax.specs.Turns.{inside, own, IsSteadyRel, IsSteady}
use Rattle.ac_syntax.specs.declared.tree.Comparison.{Comparison}
use Rattle.ac_syntax.specs.declared.tree.Cond.{Cond}
use Rattle.ac_syntax.specs.declared.tree.IndexExpr.{IndexExpr}
use Rattle.ac_syntax.specs.declared.tree.Quot.{Quot}
use Rattle.ac_syntax.specs.declared.tree.Rel.{Rel}
use Rattle.ac_syntax.specs.declared.tree.Rel.TheVariants.{NonNegative, Zero, Divides}
use Rattle.ac_syntax.proofs.Bound.{quot_still}
use Rattle.ac_poly_quotients.specs.ComparisonWays.{Decides, row_of, with_each, failing_by}
use Rattle.ac_syntax.specs.FittingForms.{FitsQuot, FitsForm, FitsRel, FitTests}
use Rattle.ac_poly_quotients.specs.QuotientScopes.{column_count, with_quots, column_for, lowered_in, rel_quots, part_quots, rel_way, part_way, rows_of, with_counter, in_loop, where_holds, where_fails}
use Rattle.ac_poly_quotients.specs.declared.types.Scope.{Scope}
use Rattle.ac_poly_quotients.specs.declared.types.Way.{Way}
use Rattle.ac_poly_quotients.proofs.FilledColumns.{filled_counter}
use Rattle.ac_poly_quotients.proofs.FormValues.{worth, Narrow, narrow-column, narrow-combined}
use Rattle.ac_poly_quotients.proofs.NarrowRows.{NarrowRows, NarrowPieces, somewhere-narrow, all_append, all_wider, narrow_with, below_narrow}
use Rattle.ac_poly_quotients.proofs.NotedColumns.{grown_all, grown_point, stands_all, AreNamed, all_named, AreSame, lowered_value, lowered_narrow, parts_decide, named_front, quotient_known}
use Rattle.ac_poly_quotients.proofs.StandingScopes.{now, Stands, columns_are, stands_counter, first_turn, taken_meets, other_meets, loop_meets}

-- ---- no row has a column that isn't there

pub record NarrowWay (n : ℕ) (w : Way) : Type 0 where
  pub row : Narrow n (form_of w.row)
  pub negations : NarrowRows n w.negations

test_narrow : (p : Point) (zs : List ℤ) (c : Scope) (e : IndexExpr) (rel : Rel) (f : Affine) → Stands p zs c → AreNamed c (rel_quots rel e) → Narrow (column_count c) f → NarrowWay (column_count c) (rel_way c e rel f)
test_narrow p zs c e NonNegative f h n w = record { row = w; negations = (below_narrow (column_count c) f w, tt) }
test_narrow p zs c e Zero f h n w = record { row = w; negations = (w, (below_narrow (column_count c) f w, tt)) }
test_narrow p zs c e (Divides m) f h n w =
    let q : Quot = part_quot e m in
    let k = column_for c q in
    let l = (quotient_known p zs c q h n.0).0 in
    let col : Narrow (column_count c) (column_form (k + 1) k) = (let v = narrow-column k in omega (arith, v, l)) in
    let rest = narrow-combined (column_count c) (pos 1) f (neg_ℤ m) (column_form (k + 1) k) w col in
    record { row = rest; negations = (rest, tt) }

parts_narrow : (p : Point) (zs : List ℤ) (c : Scope) (its : List Affine) (cs : List Comparison) (xs : ℕ) → Stands p zs c → FitTests (length p.params) xs cs → AreNamed c (flat_map part_quots cs) → AllByRecursion (Narrow (column_count c)) its
    → AllByRecursion (NarrowWay (column_count c)) (map (part_way c its) cs)
parts_narrow p zs c its [] xs h f n w = tt
parts_narrow p zs c its (part ∷ cs) xs h f n w =
    let ns = named_front c (part_quots part) (flat_map part_quots cs) n in
    let ts = named_front c part.form.quots (rel_quots part.rel part.form) ns.0 in
    let form = lowered_narrow p zs c its part.form h f.0.form.params ts.0 w in
    (test_narrow p zs c part.form part.rel (lowered_in c its part.form) h ts.1 form, parts_narrow p zs c its cs xs h f.1 ns.1 w)

rows_narrow : {C : Type 0} (n : ℕ) (way : C → Way) (cs : List C) → AllByRecursion (NarrowWay n) (map way cs) → NarrowRows n (map (λ c. row_of (way c)) cs)
rows_narrow n way [] h = tt
rows_narrow n way (c ∷ cs) h = (h.0.row, rows_narrow n way cs h.1)

each_narrow : (n : ℕ) (q rs : List Row) → NarrowRows n q → NarrowRows n rs → NarrowPieces n (with_each q rs)
each_narrow n q [] h i = tt
each_narrow n q (r ∷ rs) h i = (all_append (λ r. Narrow n (form_of r)) q (r ∷ []) h (i.0, tt), each_narrow n q rs h i.1)

failing_narrow : (n : ℕ) (ws : List Way) (q : List Row) → AllByRecursion (NarrowWay n) ws → NarrowRows n q → NarrowPieces n (failing_by ws q)
failing_narrow n [] q h i = tt
failing_narrow n (w ∷ ws) q h i =
    all_append (NarrowRows n) (with_each q w.negations) (failing_by ws (q ++ w.row ∷ [])) (each_narrow n q w.negations i h.0.negations)
    (failing_narrow n ws (q ++ w.row ∷ []) h.1 (all_append (λ r. Narrow n (form_of r)) q (w.row ∷ []) i (h.0.row, tt)))

fails_narrow : (n : ℕ) (ws : List Way) (qs : List (List Row)) → AllByRecursion (NarrowWay n) ws → NarrowPieces n qs → NarrowPieces n (flat_map (failing_by ws) qs)
fails_narrow n ws [] h i = tt
fails_narrow n ws (q ∷ qs) h i = all_append (NarrowRows n) (failing_by ws q) (flat_map (failing_by ws) qs) (failing_narrow n ws q h i.0) (fails_narrow n ws qs h i.1)

-- a scope that stands does so with other narrow pieces
with_pieces : (p : Point) (zs : List ℤ) (c : Scope) (qs : List (List Row)) → Stands p zs c → NarrowPieces (column_count c) qs → Stands p zs (record c { pieces = qs })
with_pieces p zs c qs h w = record { params = h.params; counters = h.counters; values = h.values; narrow = h.narrow; made = h.made; known = h.known; told = h.told; pieces = w }

-- ---- what fits

test_fits : (ps xs : ℕ) (rel : Rel) (e : IndexExpr) → FitsForm ps xs e → FitsRel rel e → AllByRecursion (FitsQuot ps xs) (rel_quots rel e)
test_fits ps xs NonNegative e f g = tt
test_fits ps xs Zero e f g = tt
test_fits ps xs (Divides m) e f g = (record { params = f.params; iters = f.iters; div = g.0 }, tt)

parts_fit : (ps xs : ℕ) (cs : List Comparison) → FitTests ps xs cs → AllByRecursion (FitsQuot ps xs) (flat_map part_quots cs)
parts_fit ps xs [] f = tt
parts_fit ps xs (c ∷ cs) f =
    all_append (FitsQuot ps xs) (part_quots c) (flat_map part_quots cs) (all_append (FitsQuot ps xs) c.form.quots (rel_quots c.rel c.form) f.0.form.quots (test_fits ps xs c.rel c.form f.0.form f.0.rel))
    (parts_fit ps xs cs f.1)

pub same_point : (p : Point) (qs : List Quot) → AreSame p p qs
same_point p [] = tt
same_point p (q ∷ qs) = (refl, same_point p qs)

same_points : (p : Point) (cs : List Comparison) → AllByRecursion (λ (x : Comparison). AreSame p p (part_quots x)) cs
same_points p [] = tt
same_points p (c ∷ cs) = (same_point p (part_quots c), same_points p cs)

-- in all turns the quotients of a steady comparison are the same
still : (p : Point) (x y : ℤ) (qs : List Quot) → AllByRecursion (λ q. own (length p.iters) q.iters ≡ pos 0) qs → AreSame (inside p x) (inside p y) qs
still p x y [] s = tt
still p x y (q ∷ qs) s = (quot_still p q x y s.0, still p x y qs s.1)

rel_still : (p : Point) (x y : ℤ) (rel : Rel) (e : IndexExpr) → IsSteadyRel (length p.iters) rel e.iters → AreSame (inside p x) (inside p y) (rel_quots rel e)
rel_still p x y NonNegative e s = tt
rel_still p x y Zero e s = tt
rel_still p x y (Divides m) e s = (quot_still p (part_quot e m) x y s, tt)

all_still : (p : Point) (x y : ℤ) (cs : List Comparison) → AllByRecursion (IsSteady (length p.iters)) cs → AllByRecursion (λ (c : Comparison). AreSame (inside p x) (inside p y) (part_quots c)) cs
all_still p x y [] s = tt
all_still p x y (c ∷ cs) s = (
  all_append (λ q. quot_value (inside p x) q ≡ quot_value (inside p y) q) c.form.quots (rel_quots c.rel c.form) (still p x y c.form.quots s.0.quots) (rel_still p x y c.rel c.form s.0.rel),
  all_still p x y cs s.1,
)

-- ---- branches

decided : (p : Point) (zs : List ℤ) (sc : Scope) (cs : List Comparison) → Stands p zs sc → FitTests (length p.params) (length p.iters) cs
    → AllByRecursion (λ (x : Comparison). Decides (part_way (with_quots sc (flat_map part_quots cs)) (with_quots sc (flat_map part_quots cs)).iters x) (comparison_holds p x) (now p zs (with_quots sc (flat_map part_quots cs)))) cs
decided p zs sc cs h f =
    let qs = flat_map part_quots cs in
    let c = with_quots sc qs in
    let hc = stands_all p zs sc qs h (parts_fit (length p.params) (length p.iters) cs f) in
    parts_decide p zs c c.iters p.iters cs (length p.iters) hc hc.values f (all_named sc qs) (same_points p cs)

pub stands_taken : (p : Point) (zs : List ℤ) (sc : Scope) (cond : Cond) → Stands p zs sc → FitTests (length p.params) (length p.iters) cond.parts → Stands p zs (where_holds sc cond)
stands_taken p zs sc cond h f =
    let qs = flat_map part_quots cond.parts in
    let c = with_quots sc qs in
    let hc = stands_all p zs sc qs h (parts_fit (length p.params) (length p.iters) cond.parts f) in
    let w = parts_narrow p zs c c.iters cond.parts (length p.iters) hc f (all_named sc qs) hc.narrow in
    with_pieces p zs c _ hc (narrow_with (column_count c) c.pieces (rows_of c c.iters cond.parts) hc.pieces (rows_narrow (column_count c) (part_way c c.iters) cond.parts w))

pub stands_other : (p : Point) (zs : List ℤ) (sc : Scope) (cond : Cond) → Stands p zs sc → FitTests (length p.params) (length p.iters) cond.parts → Stands p zs (where_fails sc cond)
stands_other p zs sc cond h f =
    let qs = flat_map part_quots cond.parts in
    let c = with_quots sc qs in
    let hc = stands_all p zs sc qs h (parts_fit (length p.params) (length p.iters) cond.parts f) in
    let w = parts_narrow p zs c c.iters cond.parts (length p.iters) hc f (all_named sc qs) hc.narrow in
    with_pieces p zs c _ hc (fails_narrow (column_count c) (map (part_way c c.iters) cond.parts) c.pieces w hc.pieces)

old_narrow : (p : Point) (zs : List ℤ) (sc : Scope) → Stands p zs sc → NarrowPieces (length (now p zs sc)) sc.pieces
old_narrow p zs sc h = subst (λ (n : ℕ). NarrowPieces n sc.pieces) (sym (columns_are p zs sc h)) h.pieces

pub taken_pieces : (p : Point) (zs : List ℤ) (sc : Scope) (cond : Cond) → Stands p zs sc → FitTests (length p.params) (length p.iters) cond.parts
    → IsInSome Meets (where_holds sc cond).pieces (now p zs (where_holds sc cond)) ↔ (IsInSome Meets sc.pieces (now p zs sc) × (holds p cond ≡ true))
taken_pieces p zs sc cond h f =
    let qs = flat_map part_quots cond.parts in
    let c = with_quots sc qs in
    let g = grown_all sc qs in
    let more = grown_point p zs sc c g h.counters in
    let way = part_way c c.iters in
    let d = subst (λ (x : List ℤ). AllByRecursion (λ (y : Comparison). Decides (way y) (comparison_holds p y) x) cond.parts) more.1 (decided p zs sc cond.parts h f) in
    let t = taken_meets way (comparison_holds p) cond.parts sc.pieces (now p zs sc) more.0 (old_narrow p zs sc h) d in
    rw (more.1, g.pieces) t

pub other_pieces : (p : Point) (zs : List ℤ) (sc : Scope) (cond : Cond) → Stands p zs sc → FitTests (length p.params) (length p.iters) cond.parts
    → IsInSome Meets (where_fails sc cond).pieces (now p zs (where_fails sc cond)) ↔ (IsInSome Meets sc.pieces (now p zs sc) × (holds p cond ≡ false))
other_pieces p zs sc cond h f =
    let qs = flat_map part_quots cond.parts in
    let c = with_quots sc qs in
    let g = grown_all sc qs in
    let more = grown_point p zs sc c g h.counters in
    let way = part_way c c.iters in
    let d = subst (λ (x : List ℤ). AllByRecursion (λ (y : Comparison). Decides (way y) (comparison_holds p y) x) cond.parts) more.1 (decided p zs sc cond.parts h f) in
    let t = other_meets way (comparison_holds p) cond.parts sc.pieces (now p zs sc) more.0 (old_narrow p zs sc h) d in
    rw (more.1, g.pieces) t

-- ---- an assignment: further quotients change nothing of the pieces

pub assigned_pieces : (p : Point) (zs : List ℤ) (sc : Scope) (qs : List Quot) → Stands p zs sc → IsInSome Meets (with_quots sc qs).pieces (now p zs (with_quots sc qs)) ≡ IsInSome Meets sc.pieces (now p zs sc)
assigned_pieces p zs sc qs h =
    let g = grown_all sc qs in
    let more = grown_point p zs sc (with_quots sc qs) g h.counters in
    (λ i. IsInSome Meets (g.pieces i) (more.1 i)) ∙ somewhere-narrow sc.pieces (now p zs sc) more.0 (old_narrow p zs sc h)

-- ---- loops

-- what is known inside a loop, at a number of its counter
pub record Entered (p : Point) (zs : List ℤ) (sc : Scope) (number : ℕ) (start : IndexExpr) (cond : Cond) (step z : ℤ) : Type 0 where
  pub stands : Stands (inside p (index_value p start +ℤ (step *ℤ z))) (zs ++ z ∷ []) (in_loop sc number start cond step)
  pub pieces : IsInSome Meets (in_loop sc number start cond step).pieces (now (inside p (index_value p start +ℤ (step *ℤ z))) (zs ++ z ∷ []) (in_loop sc number start cond step))
      ↔ (IsInSome Meets sc.pieces (now p zs sc) × (pos 0 ≤ℤ z) × (holds (inside p (index_value p start)) cond ≡ true) × (holds (inside p (index_value p start +ℤ (step *ℤ z))) cond ≡ true))

pub enters : (p : Point) (zs : List ℤ) (sc : Scope) (number : ℕ) (start : IndexExpr) (cond : Cond) (step z : ℤ) → Stands p zs sc → FitsForm (length p.params) (length p.iters) start
    → FitTests (length p.params) (length p.iters + 1) cond.parts → AllByRecursion (IsSteady (length p.iters)) cond.parts → Entered p zs sc number start cond step z
enters p zs sc number start cond step z h fs fc st =
    let v = index_value p start in
    let x = v +ℤ (step *ℤ z) in
    let a = with_quots sc start.quots in
    let ga = grown_all sc start.quots in
    let ha = stands_all p zs sc start.quots h fs.quots in
    let na = all_named sc start.quots in
    let form = lowered_in a a.iters start in
    let value : value_at form (now p zs a) ≡ v = lowered_value p zs a a.iters p.iters start ha ha.values fs.params na (same_point p start.quots) in
    let narrow : Narrow (column_count a) form = lowered_narrow p zs a a.iters start ha fs.params na ha.narrow in
    let b = with_counter a number form step in
    let hb = stands_counter p zs a number form step v z ha narrow value in
    let qs = flat_map part_quots cond.parts in
    let c = with_quots b qs in
    let gc = grown_all b qs in
    let one : length (inside p x).iters ≡ length p.iters + 1 = length-append p.iters (x ∷ []) in
    let fits : FitTests (length p.params) (length (inside p x).iters) cond.parts = subst (λ (n : ℕ). FitTests (length p.params) n cond.parts) (sym one) fc in
    let hc = stands_all (inside p x) (zs ++ z ∷ []) b qs hb (parts_fit (length p.params) (length (inside p x).iters) cond.parts fits) in
    let nc = all_named b qs in
    let mb = grown_point (inside p x) (zs ++ z ∷ []) b c gc hb.counters in
    let whole : now (inside p x) (zs ++ z ∷ []) c ≡ now p zs a ++ z ∷ mb.0 =
    mb.1 ∙ ap (λ (y : List ℤ). y ++ mb.0) (filled_counter a.columns p.params zs z ha.counters) ∙ append_assoc (now p zs a) (z ∷ []) mb.0 in
    let its0 : List Affine = a.iters ++ form ∷ [] in
    let first : worth (now (inside p x) (zs ++ z ∷ []) c) its0 ≡ p.iters ++ v ∷ [] = ap (λ (y : List ℤ). worth y its0) whole ∙ first_turn p zs a form v (z ∷ mb.0) ha narrow value in
    let way0 = part_way c its0 in
    let way1 = part_way c c.iters in
    let d0 = parts_decide (inside p x) (zs ++ z ∷ []) c its0 (p.iters ++ v ∷ []) cond.parts (length p.iters + 1) hc first fc nc (all_still p x v cond.parts st) in
    let d1 = parts_decide (inside p x) (zs ++ z ∷ []) c c.iters (p.iters ++ x ∷ []) cond.parts (length p.iters + 1) hc hc.values fc nc (same_points (inside p x) cond.parts) in
    let e0 = subst (λ (y : List ℤ). AllByRecursion (λ (t : Comparison). Decides (way0 t) (comparison_holds (inside p v) t) y) cond.parts) whole d0 in
    let e1 = subst (λ (y : List ℤ). AllByRecursion (λ (t : Comparison). Decides (way1 t) (comparison_holds (inside p x) t) y) cond.parts) whole d1 in
    let l = loop_meets way0 way1 (comparison_holds (inside p v)) (comparison_holds (inside p x)) cond.parts a.pieces (column_count a) (now p zs a) z mb.0 (columns_are p zs a ha) (old_narrow p zs a ha) e0 e1 in
    let inner : column_count a + 1 ≤ column_count c = within_columns p zs a number form step qs in
    let its0_narrow : AllByRecursion (Narrow (column_count c)) its0 = all_append (Narrow (column_count c)) a.iters (form ∷ []) (all_wider (Narrow (column_count a)) (Narrow (column_count c)) (λ f w. omega (arith, w, inner)) a.iters ha.narrow) (omega (arith, narrow, inner), tt) in
    let w0 = rows_narrow (column_count c) way0 cond.parts (parts_narrow (inside p x) (zs ++ z ∷ []) c its0 cond.parts (length p.iters + 1) hc fc nc its0_narrow) in
    let w1 = rows_narrow (column_count c) way1 cond.parts (parts_narrow (inside p x) (zs ++ z ∷ []) c c.iters cond.parts (length p.iters + 1) hc fc nc hc.narrow) in
    let counter : Narrow (column_count c) (column_form (column_count a + 1) (column_count a)) = (let u = narrow-column (column_count a) in omega (arith, u, inner)) in
    let rows : NarrowRows (column_count c) (Ge (column_form (column_count a + 1) (column_count a)) ∷ (rows_of c its0 cond.parts ++ rows_of c c.iters cond.parts)) = (counter, all_append (λ r. Narrow (column_count c) (form_of r)) (rows_of c its0 cond.parts) (rows_of c c.iters cond.parts) w0 w1) in
    let old : NarrowPieces (column_count c) a.pieces = all_wider (NarrowRows (column_count a)) (NarrowRows (column_count c)) (λ q g. all_wider _ _ (λ r k. omega (arith, k, inner)) q g) a.pieces ha.pieces in
    record {
      stands = with_pieces (inside p x) (zs ++ z ∷ []) c _ hc (narrow_with (column_count c) a.pieces _ old rows);
      pieces = rw (whole, ← (assigned_pieces p zs sc start.quots h)) l;
    }
  where
    within_columns : (p : Point) (zs : List ℤ) (a : Scope) (number : ℕ) (form : Affine) (step : ℤ) (qs : List Quot) → column_count a + 1 ≤ column_count (with_quots (with_counter a number form step) qs)
    within_columns p zs a number form step qs =
        let b = with_counter a number form step in
        let g = grown_all b qs in
        let l : length (with_quots b qs).columns ≡ length b.columns + length g.more = ap length g.columns ∙ length-append b.columns g.more in
        let m : length b.columns ≡ length a.columns + 1 = length-append a.columns _ in
        omega (arith, l, m, g.params)
