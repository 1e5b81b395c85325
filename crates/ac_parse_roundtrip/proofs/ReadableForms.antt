-- The forms and conditions of a file that breaks no rule are readable.
use Rattle.std.proofs.Common.{◌≡◌, ◌≤◌, ℕ, zero, suc, ◌+◌, ℤ, pos, negsuc, Bool, true, false, not, cond, ◌+ℤ◌, ◌&&◌, ◌||◌, List, [], ◌∷◌, map, length, refl, sym, ap, subst, ◌∙◌, arith, Option, Some, None}
use Rattle.std.specs.Prelude.{slice_get, nat_le}
use Rattle.std.specs.List.{AllByRecursion}
use Rattle.std.proofs.lemmas.Bool.Decides.{nat_tests}
use Rattle.ac_syntax.specs.FittingForms as fitting
use Rattle.ac_syntax.specs.Index.{is_zero}
use Rattle.ac_syntax.specs.Small.{IsSmall}
use Rattle.ac_syntax.specs.Text.{is_other_than_zero}
use Rattle.ac_syntax.specs.Text as text
use Rattle.ac_syntax.specs.Turns.{innermost}
use Rattle.ac_syntax.specs.declared.tree.Place.{Place}
use Rattle.ac_syntax.specs.declared.tree.Quot.{Quot}
use Rattle.ac_syntax.specs.declared.tree.IndexExpr.{IndexExpr}
use Rattle.ac_parse_grammar.specs.declared.tree.Expr.{Expr}
use Rattle.ac_parse_grammar.specs.declared.tree.Numeral.{Numeral}
use Rattle.ac_parse_grammar.specs.declared.tree.Part.{Part}
use Rattle.ac_parse_grammar.specs.declared.tree.Relation.{Relation}
use Rattle.ac_parse_grammar.specs.declared.tree.Relation.TheVariants.{Less, AtMost, Greater, AtLeast, Equal}
use Rattle.ac_parse_exprs.specs.declared.form.Affine.{Affine}
use Rattle.ac_parse_exprs.specs.declared.form.Collected.{Collected}
use Rattle.ac_parse_exprs.specs.declared.form.Collected.TheVariants.{Known, Large, Unknown}
use Rattle.ac_parse_exprs.specs.declared.index.Judged.{Judged}
use Rattle.ac_parse_exprs.specs.declared.scope.Entry.{Entry}
use Rattle.ac_parse_exprs.specs.declared.scope.Meaning.{Meaning}
use Rattle.ac_parse_exprs.specs.declared.scope.Meaning.TheVariants.{Parameter, Iterator}
use Rattle.ac_parse_exprs.specs.declared.scope.Scope.{Scope}
use Rattle.ac_parse_exprs.specs.AffineForms.{is_small, all_small, is_within, coef_of, constant_form}
use Rattle.ac_parse_exprs.specs.IndexExpressions.{is_long, changes_by_turn, is_refused, added, quot_of, judged}
use Rattle.ac_parse_exprs.specs.Comparisons.{counted, whole_broken, form_or_zero, placed_form, index_expr, index, index_broken, rel_of, rel_by, compared_by, compared, comparison, condition, condition_broken}
use Rattle.ac_parse_exprs.specs.Divisions.{Division, tested_division}
use Rattle.ac_parse_exprs.proofs.Absent.{NoneBroken, none_of, both_true}
use Rattle.ac_parse_exprs.proofs.Collecting.{Shaped, IsKnown, within}
use Rattle.ac_parse_exprs.proofs.FittingForms.{part_fits}
use Rattle.ac_parse_exprs.proofs.Judges.{Judges, judges, compared_judges, whole_known}
use Rattle.ac_parse_exprs.proofs.QuotientForms as divided
use Rattle.ac_parse_exprs.proofs.QuotientForms.{Hold, hold_judged, hold_part, not_refused}
use Rattle.ac_parse_exprs.proofs.TestedDivisors as tests
use Rattle.ac_parse_exprs.proofs.TestedDivisors.{divisor_at_least, divisor_small, unrefused_test}
use Rattle.ac_parse_roundtrip.specs.ColumnNames.{Stands, NameColumns, FitColumns, MayDivide, FitsQuotient, FitsScope, FitScope, FitsTest, FitsRel, PartFitsScope, PartsFitScope}
use Rattle.ac_parse_roundtrip.specs.NameCorrespondence.{Carries}
use Rattle.ac_parse_roundtrip.specs.Readability.{FormsAreReadable, ConditionsAreReadable}
use Rattle.ac_parse_roundtrip.proofs.Columns.{HasEach, HasArgument, HasColumns, HasForm, IsMeant, Names, judged_names, compared_names}
use Rattle.ac_parse_roundtrip.proofs.DistinctQuotients.{distinct_left}

small_number : (z : ℤ) → is_small z ≡ true → IsSmall z
small_number z h = grind (arith, nat_tests)

small_numbers : (zs : List ℤ) → all_small zs ≡ true → AllByRecursion IsSmall zs
small_numbers [] h = tt
small_numbers (z ∷ zs) h = let b = both_true (is_small z) (all_small zs) h in (small_number z b.0, small_numbers zs b.1)

-- ---- quotients that are divided

both_so : (a b : Bool) → (a && not b) ≡ false → a ≡ true → b ≡ true
both_so true true h k = refl
both_so true false h k = absurd cc
both_so false b h k = absurd cc

counts : (z : ℤ) → not (is_zero z) ≡ true → is_other_than_zero z ≡ true
counts (pos zero) h = absurd cc
counts (pos (suc n)) h = refl
counts (negsuc n) h = refl

few_by : (q : Quot) (qs : List Quot) (n : ℕ) (b : Bool) → length qs ≤ n → length (cond b (q ∷ qs) qs) ≤ suc n
few_by q qs n true h = omega (arith, h)
few_by q qs n false h = omega (arith, h)

few_counted : (qs : List Quot) → length (counted qs) ≤ length qs
few_counted [] = omega arith
few_counted (q ∷ qs) = few_by q (counted qs) (length qs) (not (is_zero q.coef)) (few_counted qs)

few_left : (qs : List Quot) → nat_le (length qs) 65536 ≡ true → length (counted qs) ≤ 65536
few_left qs h = let f = few_counted qs in grind (arith, nat_tests)

-- what a quotient divides has a coefficient for each column of the scope, and may be divided there
pub record IsDivided (scope : Scope) (q : Quot) : Type 0 where
  pub width : length q.params ≡ scope.params
  pub depth : length q.iters ≡ length scope.iterators
  pub small : IsSmall q.konst
  pub small_params : AllByRecursion IsSmall q.params
  pub small_iters : AllByRecursion IsSmall q.iters
  pub divisor : MayDivide scope q.iters q.div

pub other_divided : (scope : Scope) (q : Quot) (c : ℤ) → is_small c ≡ true → IsDivided scope q → IsDivided scope (record q { coef = c })
other_divided scope q c e h = record { width = h.width; depth = h.depth; small = h.small; small_params = h.small_params; small_iters = h.small_iters; divisor = h.divisor }

pub divided_made : (scope : Scope) (up : Bool) (n : Numeral) (place : Place) (f : Affine) → divided.MayDivide scope up n f → IsDivided scope (quot_of up n place f)
divided_made scope up n place f m =
    let w = within f m.within in record {
      width = m.params;
      depth = m.iters;
      small = small_number (f.constant +ℤ added up n) m.small;
      small_params = small_numbers f.params w.params;
      small_iters = small_numbers f.iters w.iters;
      divisor = record {
        free = m.free;
        steady = both_so scope.tested (is_zero (innermost f.iters)) m.steady;
        positive = divisor_at_least n.number m.divisor;
        small = divisor_small n m.short;
      };
    }

abbrev pub AreDivided : Scope → Collected → Type 0
AreDivided scope = Hold (IsDivided scope) (other_divided scope)

pub index_divided : (names : List Entry) (scope : Scope) (e : Expr) → AreDivided scope (judged names scope e).form
index_divided names scope e = hold_judged (IsDivided scope) (other_divided scope) names scope (divided_made scope) e

part_divided : (names : List Entry) (scope : Scope) (part : Part) → AreDivided scope (compared names scope part).form
part_divided names scope part = hold_part (IsDivided scope) (other_divided scope) names scope (divided_made scope) part

-- ---- names

next_column : (k i : ℕ) → (k + 1) + i ≡ k + suc i
next_column k i = omega arith

first_column : (k : ℕ) → k + 0 ≡ k
first_column k = omega arith

module _ (names : List Entry) (scope : Scope) (text_names : List Entry) (text_scope : Scope) where
  -- names that are written at the columns from k on are carried
  abbrev Written : (ℕ → Meaning) → ℕ → List (List ℕ) → Type 0
  Written column k ns = (i : ℕ) (name : List ℕ) → Stands names scope name (column (k + i)) → (slice_get ns i ≡ Some name) × Stands text_names text_scope name (column (k + i))

  rest_written : (column : ℕ → Meaning) (k : ℕ) (n : List ℕ) (ns : List (List ℕ)) → Written column k (n ∷ ns) → Written column (k + 1) ns
  rest_written column k n ns w i name s =
      let r = w (suc i) name (subst (λ j. Stands names scope name (column j)) (next_column k i) s) in
      (r.0, subst (λ j. Stands text_names text_scope name (column j)) (sym (next_column k i)) r.1)

  columns_named : (column : ℕ → Meaning) (k : ℕ) (cs : List ℤ) (ns : List (List ℕ)) → length cs ≡ length ns → Written column k ns → HasEach (IsMeant names scope) column k cs
      → NameColumns text_names text_scope column k cs ns
  columns_named column k [] [] l w h = tt
  columns_named column k [] (n ∷ ns) l w h = absurd (omega (arith, l))
  columns_named column k (c ∷ cs) [] l w h = absurd (omega (arith, l))
  columns_named column k (c ∷ cs) (n ∷ ns) l w h = (
    (λ o.
        let m = h.0 o in
        let r = w 0 m.0 (subst (λ j. Stands names scope m.0 (column j)) (sym (first_column k)) m.1) in
        let e : n ≡ m.0 = let s : Some n ≡ Some m.0 = r.0 in cc in
        subst (λ name. Stands text_names text_scope name (column k)) (sym e) (subst (λ j. Stands text_names text_scope m.0 (column j)) (first_column k) r.1)),
    columns_named column (k + 1) cs ns (omega (arith, l)) (rest_written column k n ns w) h.1,
  )

  from_first : (column : ℕ → Meaning) (ns : List (List ℕ)) → ((i : ℕ) (name : List ℕ) → Stands names scope name (column i) → (slice_get ns i ≡ Some name) × Stands text_names text_scope name (column i)) → Written column 0 ns
  from_first column ns w i name s =
      let z : 0 + i ≡ i = omega arith in
      let r = w i name (subst (λ j. Stands names scope name (column j)) z s) in
      (r.0, subst (λ j. Stands text_names text_scope name (column j)) (sym z) r.1)

  module _ (written : text.Scope) (carries : Carries names scope text_names text_scope written) where
    -- a constant and coefficients, those other than 0 with names
    columns_fit : (constant : ℤ) (params iters : List ℤ) → length params ≡ scope.params → length iters ≡ length scope.iterators → IsSmall constant → AllByRecursion IsSmall params → AllByRecursion IsSmall iters
        → HasEach (IsMeant names scope) (λ k. Parameter k) 0 params → HasEach (IsMeant names scope) (λ k. Iterator k) 0 iters → FitColumns text_names text_scope written constant params iters
    columns_fit constant params iters l m s ps is h g = record {
      width = l ∙ sym carries.params;
      depth = m ∙ sym carries.iterators;
      small = s;
      small_params = ps;
      small_iters = is;
      param_names = columns_named (λ k. Parameter k) 0 params written.params (l ∙ sym carries.param_names) (from_first (λ k. Parameter k) written.params carries.parameter) h;
      iter_names = columns_named (λ k. Iterator k) 0 iters written.iters (m ∙ sym carries.iterator_names) (from_first (λ k. Iterator k) written.iters carries.iterator) g;
    }

    divides_there : (iters : List ℤ) (m : ℤ) → MayDivide scope iters m → MayDivide text_scope iters m
    divides_there iters m h = record { free = carries.fixed ∙ h.free; steady = λ t. h.steady (sym carries.tested ∙ t); positive = h.positive; small = h.small }

    quotient_fits : (q : Quot) → is_other_than_zero q.coef ≡ true → is_small q.coef ≡ true → IsDivided scope q → HasArgument (IsMeant names scope) q → FitsQuotient text_names text_scope written q
    quotient_fits q o s d a = record {
      coef = o;
      small = small_number q.coef s;
      argument = columns_fit q.konst q.params q.iters d.width d.depth d.small d.small_params d.small_iters a.0 a.1;
      divisor = divides_there q.iters q.div d.divisor;
    }

    quotients_fit : (qs : List Quot) → all_small (map coef_of qs) ≡ true → AllByRecursion (IsDivided scope) qs → AllByRecursion (HasArgument (IsMeant names scope)) qs
        → AllByRecursion (FitsQuotient text_names text_scope written) (counted qs)
    quotients_fit [] s d a = tt
    quotients_fit (q ∷ qs) s d a =
        let b = both_true (is_small q.coef) (all_small (map coef_of qs)) s in
        by (not (is_zero q.coef)) refl b.0 (quotients_fit qs b.1 d.1 a.1)
      where
        by : (b : Bool) → not (is_zero q.coef) ≡ b → is_small q.coef ≡ true → AllByRecursion (FitsQuotient text_names text_scope written) (counted qs)
            → AllByRecursion (FitsQuotient text_names text_scope written) (cond b (q ∷ counted qs) (counted qs))
        by true e s rest = (quotient_fits q (counts q.coef e) s d.0 a.0, rest)
        by false e s rest = rest

    known_fits : (place : Place) (f : Affine) → is_within f ≡ true → length f.params ≡ scope.params → length f.iters ≡ length scope.iterators → AllByRecursion (IsDivided scope) f.quots
        → HasColumns (IsMeant names scope) f → FitsScope text_names text_scope written (placed_form place f)
    known_fits place f w l m d h =
        let s = within f w in record {
          columns = columns_fit f.constant f.params f.iters l m (small_number f.constant s.constant) (small_numbers f.params s.params) (small_numbers f.iters s.iters) h.params h.iters;
          quotients = quotients_fit f.quots s.coefs d h.quots.all;
          distinct = distinct_left f.quots h.quots.distinct;
          few = few_left f.quots s.count;
        }

    collected_fits : (place : Place) (c : Collected) → IsKnown c → Shaped scope.params (length scope.iterators) c → AreDivided scope c → HasForm (IsMeant names scope) c
        → FitsScope text_names text_scope written (placed_form place (form_or_zero scope c))
    collected_fits place (Known f) w s d h =
        subst (λ b. FitsScope text_names text_scope written (placed_form place (cond b f (constant_form scope.params (length scope.iterators) (pos 0))))) (sym w) (known_fits place f w s.0 s.1 d h)
    collected_fits place (Large constant) w s d h = absurd w
    collected_fits place Unknown w s d h = absurd w

    -- what is judged without a fault fits
    pub judged_fits : (j : Judged) → Judges scope.params (length scope.iterators) j → AreDivided scope j.form → Names names scope j → whole_broken j ≡ None → FitsScope text_names text_scope written (index_expr scope j)
    judged_fits j g d n h = collected_fits j.place j.form (whole_known scope.params (length scope.iterators) j g h) g.0 d n

    pub index_fits : (e : Expr) → index_broken names scope e ≡ None → FitsScope text_names text_scope written (index names scope e)
    index_fits e h = judged_fits (judged names scope e) (judges names scope e) (index_divided names scope e) (judged_names names scope e) h

    pub indices_fit : (es : List Expr) → NoneBroken (map (index_broken names scope) es) → FitScope text_names text_scope written (map (index names scope) es)
    indices_fit [] h = tt
    indices_fit (e ∷ es) h = (index_fits e h.0, indices_fit es h.1)

    -- ---- comparisons

    plain_fits : (r : Relation) (e : IndexExpr) → FitsRel text_scope (rel_of r) e
    plain_fits Less e = tt
    plain_fits AtMost e = tt
    plain_fits Greater e = tt
    plain_fits AtLeast e = tt
    plain_fits Equal e = tt

    -- the form that is tested changes from turn to turn no more than what is divided
    steady_form : (place : Place) (a b : Bool) (c : Collected) → a ≡ false → b ≡ false → IsKnown (cond (a || b) Unknown c) → changes_by_turn scope c ≡ false → scope.tested ≡ true
        → is_zero (innermost (placed_form place (form_or_zero scope (cond (a || b) Unknown c))).iters) ≡ true
    steady_form place true b c u l w e t = absurd cc
    steady_form place false true c u l w e t = absurd cc
    steady_form place false false (Known f) u l w e t =
        subst (λ b. is_zero (innermost (placed_form place (cond b f (constant_form scope.params (length scope.iterators) (pos 0)))).iters) ≡ true) (sym w) (both_so scope.tested (is_zero (innermost f.iters)) e t)
    steady_form place false false (Large constant) u l w e t = absurd w
    steady_form place false false Unknown u l w e t = absurd w

    tested_fits : (part : Part) (d : Division) → tested_division part ≡ Some d → whole_broken (compared names scope part) ≡ None → FitsTest text_scope (pos d.divisor.number) (comparison names scope part).form
    tested_fits part d e h =
        let same = ap (compared_by names scope part) e in
        let u = unrefused_test names scope d (ap whole_broken (sym same) ∙ h) in
        let r = not_refused scope d.divisor (tests.divided names scope d) u.1 in
        let w = subst (λ j. IsKnown j.form) same (whole_known scope.params (length scope.iterators) (compared names scope part) (compared_judges names scope part) h) in
        let s = steady_form (compared_by names scope part (Some d)).place (is_refused scope d.divisor (tests.divided names scope d)) (is_long d.divisor) (tests.divided names scope d).form u.1 u.0 w r.4 in
        let f = subst (λ x. fitting.FitsRel (rel_by part.relation x) (comparison names scope part).form) e (part_fits names scope part h).rel in
        record {
          divisor = divides_there (comparison names scope part).form.iters (pos d.divisor.number) (record {
            free = r.0;
            steady = λ t. subst (λ j. is_zero (innermost (index_expr scope j).iters) ≡ true) (sym same) (s t);
            positive = divisor_at_least d.divisor.number r.1;
            small = divisor_small d.divisor u.0;
          });
          plain = f.1;
        }

    part_rel_fits : (part : Part) → whole_broken (compared names scope part) ≡ None → FitsRel text_scope (comparison names scope part).rel (comparison names scope part).form
    part_rel_fits part h = by (tested_division part) refl
      where
        by : (o : Option Division) → tested_division part ≡ o → FitsRel text_scope (rel_by part.relation o) (comparison names scope part).form
        by None e = plain_fits part.relation (comparison names scope part).form
        by (Some d) e = tested_fits part d e h

    pub part_fits_scope : (part : Part) → whole_broken (compared names scope part) ≡ None → PartFitsScope text_names text_scope written (comparison names scope part)
    part_fits_scope part h = record {
      form = judged_fits (compared names scope part) (compared_judges names scope part) (part_divided names scope part) (compared_names names scope part) h;
      rel = part_rel_fits part h;
    }

    pub parts_fit : (parts : List Part) → NoneBroken (map (λ part. whole_broken (compared names scope part)) parts) → PartsFitScope text_names text_scope written (condition names scope parts)
    parts_fit [] h = tt
    parts_fit (part ∷ parts) h = (part_fits_scope part h.0, parts_fit parts h.1)

    pub condition_fits : (parts : List Part) → condition_broken names scope parts ≡ None → PartsFitScope text_names text_scope written (condition names scope parts)
    condition_fits parts h = parts_fit parts (none_of (map (λ part. whole_broken (compared names scope part)) parts) h)

pub forms_are_readable : FormsAreReadable
forms_are_readable names scope text_names text_scope written carries e h = index_fits names scope text_names text_scope written carries e h

pub conditions_are_readable : ConditionsAreReadable
conditions_are_readable names scope text_names text_scope written carries parts h = condition_fits names scope text_names text_scope written carries parts h
