-- Scopes with quotients in starts and conditions: they stand at their points, and their pieces are met where the conditions hold.
use Rattle.std.proofs.Common.{◌≡◌, ℕ, ◌+◌, ◌<◌, List, [], ◌∷◌, ◌++◌, length, map, Bool, true, false, get_or, refl, sym, ap, ◌∙◌, subst, arith, ℤ, pos, unsigned_abs, ◌+ℤ◌, ◌*ℤ◌, append-nil, append_assoc}
use Rattle.std.specs.Int.{int_div_euclid}
use Rattle.std.specs.Prelude.{◌||◌, if◌then◌else◌}
use Rattle.std.specs.List.{AllByRecursion, list_any, flat_map}
use Rattle.std.proofs.lemmas.Int.{ints}
use Rattle.ac_base.specs.Dot.{dot}
use Rattle.ac_base.specs.Multiple.{divides}
use Rattle.ac_forms.specs.Affine.{Affine, value_at}
use Rattle.ac_forms.specs.Renaming.{picked}
use Rattle.ac_syntax.specs.Index.{Point, index_value, quot_argument, quot_value, quots_value, is_nonnegative, is_zero, rel_holds, comparison_holds}
use Rattle.ac_syntax.specs.Quotients.{part_quot}
use Rattle.ac_syntax.specs.declared.tree.Comparison.{Comparison}
use Rattle.ac_syntax.specs.declared.tree.IndexExpr.{IndexExpr}
use Rattle.ac_syntax.specs.declared.tree.Quot.{Quot}
use Rattle.ac_syntax.specs.declared.tree.Rel.{Rel}
use Rattle.ac_syntax.specs.declared.tree.Rel.TheVariants.{NonNegative, Zero, Divides}
use Rattle.ac_syntax.proofs.Alike.{same_value}
use Rattle.ac_poly_quotients.specs.ComparisonWays.{Decides, way_of_bound, way_of_zero, way_of_multiple}
use Rattle.ac_poly_quotients.specs.FilledColumns.{counters, filled, filling}
use Rattle.ac_syntax.specs.FittingForms.{FitsQuot, FitsRel, FitsTest, FitTests}
use Rattle.ac_poly_quotients.specs.QuotientScopes.{column_count, with_new, is_named, with_quot, with_quots, column_for, coef_of, lowered_in, rel_quots, part_quots, rel_way, part_way}
use Rattle.ac_poly_quotients.specs.declared.types.Column.{Column}
use Rattle.ac_poly_quotients.specs.declared.types.QuotColumn.{QuotColumn}
use Rattle.ac_poly_quotients.specs.declared.types.Scope.{Scope}
use Rattle.ac_poly_quotients.proofs.ComparisonWays.{bound_decides, zero_decides, multiple_decides}
use Rattle.ac_poly_quotients.proofs.FilledColumns.{filled-append, filled_is, counters-append}
use Rattle.ac_poly_quotients.proofs.FormValues.{worth, Narrow}
use Rattle.ac_poly_quotients.proofs.NotedQuotients.{same_itself}
use Rattle.ac_poly_quotients.proofs.StandingScopes.{now, Stands, lowered_with_at, narrow-lowered_with, named_value, stands_quotient, found}

-- ---- columns for quotients

-- a scope that has got further quotients
pub record Grown (sc c : Scope) : Type 0 where
  pub params : c.params ≡ sc.params
  pub iters : c.iters ≡ sc.iters
  pub loops : c.loops ≡ sc.loops
  pub pieces : c.pieces ≡ sc.pieces
  pub more : List Column
  pub columns : c.columns ≡ sc.columns ++ more
  pub none : counters more ≡ 0
  pub new : List QuotColumn
  pub names : c.quots ≡ sc.quots ++ new

grown_not : (sc : Scope) → Grown sc sc
grown_not sc = record { params = refl; iters = refl; loops = refl; pieces = refl; more = []; columns = sym (append-nil sc.columns); none = refl; new = []; names = sym (append-nil sc.quots) }

grown_then : (a b c : Scope) → Grown a b → Grown b c → Grown a c
grown_then a b c g h = record {
  params = h.params ∙ g.params;
  iters = h.iters ∙ g.iters;
  loops = h.loops ∙ g.loops;
  pieces = h.pieces ∙ g.pieces;
  more = g.more ++ h.more;
  columns = h.columns ∙ ap (λ (x : List Column). x ++ h.more) g.columns ∙ append_assoc a.columns g.more h.more;
  none = counters-append g.more h.more ∙ (λ i. g.none i + h.none i);
  new = g.new ++ h.new;
  names = h.names ∙ ap (λ (x : List QuotColumn). x ++ h.new) g.names ∙ append_assoc a.quots g.new h.new;
}

grown_quotient : (sc : Scope) (q : Quot) → Grown sc (with_new sc q)
grown_quotient sc q = record { params = refl; iters = refl; loops = refl; pieces = refl; more = _; columns = refl; none = refl; new = _; names = refl }

grown_if : (b : Bool) (sc : Scope) (q : Quot) → Grown sc (if b then sc else with_new sc q)
grown_if true sc q = grown_not sc
grown_if false sc q = grown_quotient sc q

pub grown_one : (sc : Scope) (q : Quot) → (with_quot sc q).iters ≡ sc.iters
grown_one sc q = (grown_if (list_any (is_named q) sc.quots) sc q).iters

pub grown_all : (sc : Scope) (qs : List Quot) → Grown sc (with_quots sc qs)
grown_all sc [] = grown_not sc
grown_all sc (q ∷ qs) = grown_then sc (with_quot sc q) (with_quots (with_quot sc q) qs) (grown_if (list_any (is_named q) sc.quots) sc q) (grown_all (with_quot sc q) qs)

-- its point only grows
pub grown_point : (p : Point) (zs : List ℤ) (sc c : Scope) → Grown sc c → length zs ≡ counters sc.columns → (more : List ℤ) × (now p zs c ≡ now p zs sc ++ more)
grown_point p zs sc c g e = (
  filling g.more (now p zs sc) [],
  ap (λ (x : List Column). filled x p.params zs) g.columns ∙ ap (filled (sc.columns ++ g.more) p.params) (sym (append-nil zs)) ∙ filled-append sc.columns g.more p.params zs [] e ∙ filled_is g.more (now p zs sc) [],
)

stands_if : (b : Bool) (p : Point) (zs : List ℤ) (sc : Scope) (q : Quot) → Stands p zs sc → FitsQuot (length p.params) (length p.iters) q → Stands p zs (if b then sc else with_new sc q)
stands_if true p zs sc q h f = h
stands_if false p zs sc q h f = stands_quotient p zs sc q h f.params (omega (arith, f.iters)) f.div

pub stands_all : (p : Point) (zs : List ℤ) (sc : Scope) (qs : List Quot) → Stands p zs sc → AllByRecursion (FitsQuot (length p.params) (length p.iters)) qs → Stands p zs (with_quots sc qs)
stands_all p zs sc [] h f = h
stands_all p zs sc (q ∷ qs) h f = stands_all p zs (with_quot sc q) qs (stands_if (list_any (is_named q) sc.quots) p zs sc q h f.0) f.1

-- each quotient has a column then
any_front : (test : QuotColumn → Bool) (xs ys : List QuotColumn) → list_any test xs ≡ true → list_any test (xs ++ ys) ≡ true
any_front test [] ys h = absurd (let k : false ≡ true = h in cc)
any_front test (x ∷ xs) ys h = either (test x) (list_any test xs) (list_any test (xs ++ ys)) h (any_front test xs ys)
  where
    either : (a b c : Bool) → (a || b) ≡ true → (b ≡ true → c ≡ true) → (a || c) ≡ true
    either true b c h g = refl
    either false b c h g = g h

any_last : (test : QuotColumn → Bool) (xs : List QuotColumn) (y : QuotColumn) → test y ≡ true → list_any test (xs ++ y ∷ []) ≡ true
any_last test [] y h = rw h refl
any_last test (x ∷ xs) y h = either (test x) _ (any_last test xs y h)
  where
    either : (a b : Bool) → b ≡ true → (a || b) ≡ true
    either true b h = refl
    either false b h = h

one_named : (q : Quot) (sc : Scope) (b : Bool) → list_any (is_named q) sc.quots ≡ b → list_any (is_named q) (if b then sc else with_new sc q).quots ≡ true
one_named q sc true e = e
one_named q sc false e = any_last (is_named q) sc.quots _ (same_itself q)

grown_named : (q : Quot) (sc c : Scope) → Grown sc c → list_any (is_named q) sc.quots ≡ true → list_any (is_named q) c.quots ≡ true
grown_named q sc c g h = ap (list_any (is_named q)) g.names ∙ any_front (is_named q) sc.quots g.new h

abbrev pub AreNamed : Scope → List Quot → Type 0
AreNamed c qs = AllByRecursion (λ q. list_any (is_named q) c.quots ≡ true) qs

pub all_named : (sc : Scope) (qs : List Quot) → AreNamed (with_quots sc qs) qs
all_named sc [] = tt
all_named sc (q ∷ qs) = (
  grown_named q (with_quot sc q) (with_quots (with_quot sc q) qs) (grown_all (with_quot sc q) qs) (one_named q sc (list_any (is_named q) sc.quots) refl),
  all_named (with_quot sc q) qs,
)

-- ---- values

pub quotient_known : (p : Point) (zs : List ℤ) (c : Scope) (q : Quot) → Stands p zs c → list_any (is_named q) c.quots ≡ true
    → (column_for c q < column_count c) × (get_or (now p zs c) (column_for c q) (pos 0) ≡ quot_value p q)
quotient_known p zs c q h n =
    let f = found (is_named q) c.quots n in
    let k = named_value p (column_count c) (now p zs c) c.quots f.which h.known f.among in (
      subst (λ (i : ℕ). i < column_count c) f.is k.within,
      ap (λ (i : ℕ). get_or (now p zs c) i (pos 0)) (sym f.is) ∙ k.value ∙ sym (same_value p q f.which.quot f.passes),
    )

-- the quotients have the same values at two points
abbrev pub AreSame : Point → Point → List Quot → Type 0
AreSame p r qs = AllByRecursion (λ q. quot_value p q ≡ quot_value r q) qs

quots_are : (p r : Point) (zs : List ℤ) (c : Scope) (qs : List Quot) → Stands p zs c → AreNamed c qs → AreSame p r qs
    → dot (map coef_of qs) (picked (map (column_for c) qs) (now p zs c)) ≡ quots_value r qs
quots_are p r zs c [] h n e = refl
quots_are p r zs c (q ∷ qs) h n e =
    let first : get_or (now p zs c) (column_for c q) (pos 0) ≡ quot_value r q = (quotient_known p zs c q h n.0).1 ∙ e.0 in
    let rest = quots_are p r zs c qs h n.1 e.1 in
    λ i. (q.coef *ℤ first i) +ℤ rest i

pub lowered_value : (p : Point) (zs : List ℤ) (c : Scope) (its : List Affine) (is : List ℤ) (e : IndexExpr) → Stands p zs c → worth (now p zs c) its ≡ is → length e.params ≡ length p.params
    → AreNamed c e.quots → AreSame p (record { params = p.params; iters = is }) e.quots → value_at (lowered_in c its e) (now p zs c) ≡ index_value (record { params = p.params; iters = is }) e
lowered_value p zs c its is e h v f n s =
    lowered_with_at p zs c its is e (map coef_of e.quots) (map (column_for c) e.quots) v f
    ∙ ap (λ (z : ℤ). e.konst +ℤ (dot e.params p.params +ℤ (dot e.iters is +ℤ z))) (quots_are p (record { params = p.params; iters = is }) zs c e.quots h n s)

columns_within : (p : Point) (zs : List ℤ) (c : Scope) (qs : List Quot) → Stands p zs c → AreNamed c qs → AllByRecursion (λ (k : ℕ). k < column_count c) (map (column_for c) qs)
columns_within p zs c [] h n = tt
columns_within p zs c (q ∷ qs) h n = ((quotient_known p zs c q h n.0).0, columns_within p zs c qs h n.1)

pub lowered_narrow : (p : Point) (zs : List ℤ) (c : Scope) (its : List Affine) (e : IndexExpr) → Stands p zs c → length e.params ≡ length p.params → AreNamed c e.quots → AllByRecursion (Narrow (column_count c)) its
    → Narrow (column_count c) (lowered_in c its e)
lowered_narrow p zs c its e h f n w = narrow-lowered_with (column_count c) (length p.params) its e _ _ (omega (arith, h.params)) f w (columns_within p zs c e.quots h n)

-- ---- comparisons

pub named_front : (c : Scope) (xs ys : List Quot) → AreNamed c (xs ++ ys) → AreNamed c xs × AreNamed c ys
named_front c [] ys h = (tt, h)
named_front c (x ∷ xs) ys h = let r = named_front c xs ys h.1 in ((h.0, r.0), r.1)

same_front : (p r : Point) (xs ys : List Quot) → AreSame p r (xs ++ ys) → AreSame p r xs × AreSame p r ys
same_front p r [] ys h = (tt, h)
same_front p r (x ∷ xs) ys h = let s = same_front p r xs ys h.1 in ((h.0, s.0), s.1)

-- what a part tests, where the form has its value
rel_decides : (p : Point) (zs : List ℤ) (c : Scope) (is : List ℤ) (e : IndexExpr) (rel : Rel) (f : Affine) → Stands p zs c → FitsRel rel e
    → AreNamed c (rel_quots rel e) → AreSame p (record { params = p.params; iters = is }) (rel_quots rel e) → value_at f (now p zs c) ≡ index_value (record { params = p.params; iters = is }) e
    → Decides (rel_way c e rel f) (rel_holds rel (index_value (record { params = p.params; iters = is }) e)) (now p zs c)
rel_decides p zs c is e NonNegative f h fit n s v = subst (λ (z : ℤ). Decides (way_of_bound f) (is_nonnegative z) (now p zs c)) v (bound_decides f (now p zs c))
rel_decides p zs c is e Zero f h fit n s v = subst (λ (z : ℤ). Decides (way_of_zero f) (is_zero z) (now p zs c)) v (zero_decides f (now p zs c))
rel_decides p zs c is e (Divides m) f h fit n s v =
    let at : Point = record { params = p.params; iters = is } in
    let q : Quot = part_quot e m in
    let alone : index_value at e ≡ quot_argument at q = ap (λ (qs : List Quot). e.konst +ℤ (dot e.params p.params +ℤ (dot e.iters is +ℤ quots_value at qs))) fit.1 ∙ none e.konst (dot e.params p.params) (dot e.iters is) in
    let k : get_or (now p zs c) (column_for c q) (pos 0) ≡ int_div_euclid (value_at f (now p zs c)) m =
    (quotient_known p zs c q h n.0).1 ∙ s.0 ∙ ap (λ (z : ℤ). int_div_euclid z m) (sym (v ∙ alone)) in
    subst (λ (z : ℤ). Decides (way_of_multiple (column_for c q) m f) (divides (unsigned_abs m) z) (now p zs c)) v (multiple_decides (column_for c q) m f (now p zs c) fit.0 k)
  where
    none : (x y z : ℤ) → x +ℤ (y +ℤ (z +ℤ pos 0)) ≡ x +ℤ (y +ℤ z)
    none x y z = omega (arith, ints)

pub part_decides : (p : Point) (zs : List ℤ) (c : Scope) (its : List Affine) (is : List ℤ) (part : Comparison) (xs : ℕ) → Stands p zs c → worth (now p zs c) its ≡ is → FitsTest (length p.params) xs part
    → AreNamed c (part_quots part) → AreSame p (record { params = p.params; iters = is }) (part_quots part) → Decides (part_way c its part) (comparison_holds (record { params = p.params; iters = is }) part) (now p zs c)
part_decides p zs c its is part xs h v f n e =
    let ns = named_front c part.form.quots (rel_quots part.rel part.form) n in
    let es = same_front p (record { params = p.params; iters = is }) part.form.quots (rel_quots part.rel part.form) e in
    rel_decides p zs c is part.form part.rel (lowered_in c its part.form) h f.rel ns.1 es.1 (lowered_value p zs c its is part.form h v f.form.params ns.0 es.0)

pub parts_decide : (p : Point) (zs : List ℤ) (c : Scope) (its : List Affine) (is : List ℤ) (cs : List Comparison) (xs : ℕ) → Stands p zs c → worth (now p zs c) its ≡ is → FitTests (length p.params) xs cs
    → AreNamed c (flat_map part_quots cs) → AllByRecursion (λ (x : Comparison). AreSame p (record { params = p.params; iters = is }) (part_quots x)) cs
    → AllByRecursion (λ (x : Comparison). Decides (part_way c its x) (comparison_holds (record { params = p.params; iters = is }) x) (now p zs c)) cs
parts_decide p zs c its is [] xs h v f n e = tt
parts_decide p zs c its is (part ∷ cs) xs h v f n e =
    let ns = named_front c (part_quots part) (flat_map part_quots cs) n in
    (part_decides p zs c its is part xs h v f.0 ns.0 e.0, parts_decide p zs c its is cs xs h v f.1 ns.1 e.1)
