-- Index expressions and comparisons of a program fit their scope; those of a loop's condition are steady, and those where only
-- parameters may stand have no quotients.
use Rattle.std.proofs.Common.{◌≡◌, ◌+◌, ℕ, zero, suc, ℤ, pos, negsuc, Bool, true, false, not, ◌&&◌, ◌||◌, ◌-◌, cond, List, [], ◌∷◌, length, get_or, refl, sym, ap, subst, ◌∙◌, arith, Option, Some, None}
use Rattle.std.specs.List.{AllByRecursion}
use Rattle.ac_syntax.specs.FittingForms.{FitsQuot, FitsForm, FitsRel, FitsTest, FitTests}
use Rattle.ac_syntax.specs.Index.{is_zero}
use Rattle.ac_syntax.specs.ReadyPrograms.{Fits, FitsPart, IsPlain, FitParts}
use Rattle.ac_syntax.specs.Turns.{innermost, own, IsSteady, IsSteadyRel}
use Rattle.ac_syntax.specs.declared.tree.Place.{Place}
use Rattle.ac_syntax.specs.declared.tree.Quot.{Quot}
use Rattle.ac_syntax.specs.declared.tree.IndexExpr.{IndexExpr}
use Rattle.ac_parse_grammar.specs.declared.tree.Numeral.{Numeral}
use Rattle.ac_parse_grammar.specs.declared.tree.Part.{Part}
use Rattle.ac_parse_grammar.specs.declared.tree.Expr.{Expr}
use Rattle.ac_parse_grammar.specs.declared.tree.Relation.{Relation}
use Rattle.ac_parse_grammar.specs.declared.tree.Relation.TheVariants.{Less, AtMost, Greater, AtLeast, Equal}
use Rattle.ac_parse_exprs.specs.declared.scope.Entry.{Entry}
use Rattle.ac_parse_exprs.specs.declared.scope.Scope.{Scope}
use Rattle.ac_parse_exprs.specs.declared.form.Affine.{Affine}
use Rattle.ac_parse_exprs.specs.declared.form.Collected.{Collected}
use Rattle.ac_parse_exprs.specs.declared.form.Collected.TheVariants.{Known, Large, Unknown}
use Rattle.ac_parse_exprs.specs.declared.index.Judged.{Judged}
use Rattle.ac_parse_exprs.specs.AffineForms.{is_small, is_within, zeros, constant_form}
use Rattle.ac_parse_exprs.specs.IndexExpressions.{is_long, changes_by_turn, is_refused, quot_of, judged}
use Rattle.ac_parse_exprs.specs.Comparisons.{placed_form, form_or_zero, index_expr, index, rel_of, rel_by, whole_broken, compared_by, compared, comparison, condition}
use Rattle.ac_parse_exprs.specs.Divisions.{Division, tested_division}
use Rattle.ac_parse_exprs.proofs.Collecting.{Shaped, constant_shaped}
use Rattle.ac_parse_exprs.proofs.Columns.{innermost_at}
use Rattle.ac_parse_exprs.proofs.Judges.{judges, compared_judges, chain_shaped}
use Rattle.ac_parse_exprs.proofs.QuotientForms.{MayDivide, Hold, hold_placed, hold_judged, hold_part, not_refused}
use Rattle.ac_parse_exprs.proofs.TestedDivisors.{divisor_at_least, divided, unrefused_test, tested_divisor}
use Rattle.ac_parse_exprs.proofs.Unrounded.{Never, NoQuots, none_left, chains_unrounded}

-- ---- columns and divisors

pub other_fits : (ps xs : ℕ) (q : Quot) (c : ℤ) → is_small c ≡ true → FitsQuot ps xs q → FitsQuot ps xs (record q { coef = c })
other_fits ps xs q c e h = record { params = h.params; iters = h.iters; div = h.div }

pub quot_fits : (scope : Scope) (up : Bool) (n : Numeral) (place : Place) (f : Affine) → MayDivide scope up n f → FitsQuot scope.params (length scope.iterators) (quot_of up n place f)
quot_fits scope up n place f m = record { params = m.params; iters = m.iters; div = divisor_at_least n.number m.divisor }

abbrev pub QuotsFit : Scope → Collected → Type 0
QuotsFit scope = Hold (FitsQuot scope.params (length scope.iterators)) (other_fits scope.params (length scope.iterators))

columns_fit : (scope : Scope) (place : Place) (c : Collected) → Shaped scope.params (length scope.iterators) c
    → (length (placed_form place (form_or_zero scope c)).params ≡ scope.params) × (length (placed_form place (form_or_zero scope c)).iters ≡ length scope.iterators)
columns_fit scope place (Known f) h = by (is_within f)
  where
    by : (b : Bool) → (length (cond b f (constant_form scope.params (length scope.iterators) (pos 0))).params ≡ scope.params) × (length (cond b f (constant_form scope.params (length scope.iterators) (pos 0))).iters ≡ length scope.iterators)
    by true = (h.0, h.1)
    by false = let z = constant_shaped scope.params (length scope.iterators) (pos 0) refl in (z.0, z.1)
columns_fit scope place (Large c) h = let z = constant_shaped scope.params (length scope.iterators) (pos 0) refl in (z.0, z.1)
columns_fit scope place Unknown h = let z = constant_shaped scope.params (length scope.iterators) (pos 0) refl in (z.0, z.1)

pub index_expr_fits : (scope : Scope) (j : Judged) → Shaped scope.params (length scope.iterators) j.form → QuotsFit scope j.form → FitsForm scope.params (length scope.iterators) (index_expr scope j)
index_expr_fits scope j h q =
    let k = columns_fit scope j.place j.form h in
    record { params = k.0; iters = k.1; quots = hold_placed (FitsQuot scope.params (length scope.iterators)) (other_fits scope.params (length scope.iterators)) scope j.place j.form q }

pub index_fits : (names : List Entry) (scope : Scope) (e : Expr) → FitsForm scope.params (length scope.iterators) (index names scope e)
index_fits names scope e = index_expr_fits scope (judged names scope e) (judges names scope e).0
    (hold_judged (FitsQuot scope.params (length scope.iterators)) (other_fits scope.params (length scope.iterators)) names scope (quot_fits scope) e)

pub comparison_fits : (names : List Entry) (scope : Scope) (part : Part) → FitsForm scope.params (length scope.iterators) (comparison names scope part).form
comparison_fits names scope part = index_expr_fits scope (compared names scope part) (compared_judges names scope part).0
    (hold_part (FitsQuot scope.params (length scope.iterators)) (other_fits scope.params (length scope.iterators)) names scope (quot_fits scope) part)

-- ---- without quotients

none_placed : (scope : Scope) (place : Place) (c : Collected) → NoQuots c → (placed_form place (form_or_zero scope c)).quots ≡ []
none_placed scope place c h = none_left (placed_form place (form_or_zero scope c)).quots (hold_placed Never (λ q c s k. k) scope place c h)

unless_none : (a b : Bool) (c : Collected) → (a ≡ false → NoQuots c) → NoQuots (cond (a || b) Unknown c)
unless_none true b c h = tt
unless_none false true c h = tt
unless_none false false c h = h refl

-- a form of which multiples are tested
tested_none : (names : List Entry) (scope : Scope) (part : Part) (d : Division) → NoQuots (compared_by names scope part (Some d)).form
tested_none names scope part d =
    unless_none (is_refused scope d.divisor (divided names scope d)) (is_long d.divisor) (divided names scope d).form
    (λ e. chains_unrounded names scope d.operands d.operators (not_refused scope d.divisor (divided names scope d) e).2)

plain_fits : (r : Relation) (e : IndexExpr) → FitsRel (rel_of r) e
plain_fits Less e = tt
plain_fits AtMost e = tt
plain_fits Greater e = tt
plain_fits AtLeast e = tt
plain_fits Equal e = tt

rel_fits : (names : List Entry) (scope : Scope) (part : Part) (d : Option Division) → whole_broken (compared_by names scope part d) ≡ None → FitsRel (rel_by part.relation d) (index_expr scope (compared_by names scope part d))
rel_fits names scope part None b = plain_fits part.relation (index_expr scope (compared_by names scope part None))
rel_fits names scope part (Some d) b = (
  divisor_at_least d.divisor.number (tested_divisor names scope d b).0,
  none_placed scope (compared_by names scope part (Some d)).place (compared_by names scope part (Some d)).form (tested_none names scope part d),
)

-- a comparison that breaks no rule
pub part_fits : (names : List Entry) (scope : Scope) (part : Part) → whole_broken (compared names scope part) ≡ None → FitsTest scope.params (length scope.iterators) (comparison names scope part)
part_fits names scope part b = record { form = comparison_fits names scope part; rel = rel_fits names scope part (tested_division part) b }

pub parts_fit : (names : List Entry) (scope : Scope) (parts : List Part) → AllByRecursion (λ part. whole_broken (compared names scope part) ≡ None) parts → FitTests scope.params (length scope.iterators) (condition names scope parts)
parts_fit names scope [] b = tt
parts_fit names scope (part ∷ parts) b = (part_fits names scope part b.0, parts_fit names scope parts b.1)

-- ---- where only parameters may stand

never_made : (scope : Scope) → scope.fixed ≡ true → (up : Bool) (n : Numeral) (place : Place) (f : Affine) → MayDivide scope up n f → Never (quot_of up n place f)
never_made scope h up n place f m = let e : true ≡ false = sym h ∙ m.free in absurd cc

fixed_expr : (scope : Scope) (j : Judged) → Shaped scope.params (length scope.iterators) j.form → NoQuots j.form → Fits scope.params (length scope.iterators) (index_expr scope j)
fixed_expr scope j h q = let k = columns_fit scope j.place j.form h in record { params = k.0; iters = k.1; plain = none_placed scope j.place j.form q }

pub fixed_index : (names : List Entry) (scope : Scope) → scope.fixed ≡ true → (e : Expr) → Fits scope.params (length scope.iterators) (index names scope e)
fixed_index names scope h e = fixed_expr scope (judged names scope e) (judges names scope e).0 (hold_judged Never (λ q c s k. k) names scope (never_made scope h) e)

plain_rel : (r : Relation) → IsPlain (rel_of r)
plain_rel Less = tt
plain_rel AtMost = tt
plain_rel Greater = tt
plain_rel AtLeast = tt
plain_rel Equal = tt

fixed_rel : (names : List Entry) (scope : Scope) → scope.fixed ≡ true → (part : Part) (d : Option Division) → whole_broken (compared_by names scope part d) ≡ None → IsPlain (rel_by part.relation d)
fixed_rel names scope h part None b = plain_rel part.relation
fixed_rel names scope h part (Some d) b =
    let u = unrefused_test names scope d b in
    let e : true ≡ false = sym h ∙ (not_refused scope d.divisor (divided names scope d) u.1).0 in absurd cc

pub fixed_part : (names : List Entry) (scope : Scope) → scope.fixed ≡ true → (part : Part) → whole_broken (compared names scope part) ≡ None → FitsPart scope.params (length scope.iterators) (comparison names scope part)
fixed_part names scope h part b = record {
  form = fixed_expr scope (compared names scope part) (compared_judges names scope part).0 (hold_part Never (λ q c s k. k) names scope (never_made scope h) part);
  rel = fixed_rel names scope h part (tested_division part) b;
}

pub fixed_parts : (names : List Entry) (scope : Scope) → scope.fixed ≡ true → (parts : List Part) → AllByRecursion (λ part. whole_broken (compared names scope part) ≡ None) parts → FitParts scope.params (length scope.iterators) (condition names scope parts)
fixed_parts names scope h [] b = tt
fixed_parts names scope h (part ∷ parts) b = (fixed_part names scope h part b.0, fixed_parts names scope h parts b.1)

-- ---- in the condition of a loop inside n others

zero_when : (z : ℤ) → is_zero z ≡ true → z ≡ pos 0
zero_when (pos zero) h = refl
zero_when (pos (suc n)) h = absurd cc
zero_when (negsuc n) h = absurd cc

both_so : (a b : Bool) → (a && not b) ≡ false → a ≡ true → b ≡ true
both_so true true h k = refl
both_so true false h k = absurd cc
both_so false b h k = absurd cc

own_zero : (n : ℕ) (xs : List ℤ) → length xs ≡ n + 1 → is_zero (innermost xs) ≡ true → own n xs ≡ pos 0
own_zero n xs l h =
    let k : length xs - 1 ≡ n = omega (arith, l) in
    ap (λ i. get_or xs i (pos 0)) (sym k) ∙ innermost_at xs ∙ zero_when (innermost xs) h

none_own : (n xs : ℕ) → own n (zeros xs) ≡ pos 0
none_own n zero = refl
none_own zero (suc xs) = refl
none_own (suc n) (suc xs) = none_own n xs

open_form : (a b : Bool) (c : Collected) → a ≡ false → b ≡ false → cond (a || b) Unknown c ≡ c
open_form true b c h k = absurd cc
open_form false true c h k = absurd cc
open_form false false c h k = refl

module _ (names : List Entry) (scope : Scope) (n : ℕ) (tests : scope.tested ≡ true) (loops : length scope.iterators ≡ n + 1) where
  abbrev Steady : Quot → Type 0
  Steady q = own n q.iters ≡ pos 0

  steady_made : (up : Bool) (m : Numeral) (place : Place) (f : Affine) → MayDivide scope up m f → Steady (quot_of up m place f)
  steady_made up m place f d = own_zero n f.iters (d.iters ∙ loops) (both_so scope.tested (is_zero (innermost f.iters)) d.steady tests)

  steady_form : (part : Part) → AllByRecursion Steady (comparison names scope part).form.quots
  steady_form part = hold_placed Steady (λ q c s h. h) scope (compared names scope part).place (compared names scope part).form (hold_part Steady (λ q c s h. h) names scope steady_made part)

  own_placed : (place : Place) (c : Collected) → Shaped scope.params (length scope.iterators) c → changes_by_turn scope c ≡ false → own n (placed_form place (form_or_zero scope c)).iters ≡ pos 0
  own_placed place (Known f) h e = by (is_within f)
    where
      by : (b : Bool) → own n (cond b f (constant_form scope.params (length scope.iterators) (pos 0))).iters ≡ pos 0
      by true = own_zero n f.iters (h.1 ∙ loops) (both_so scope.tested (is_zero (innermost f.iters)) e tests)
      by false = none_own n (length scope.iterators)
  own_placed place (Large c) h e = none_own n (length scope.iterators)
  own_placed place Unknown h e = none_own n (length scope.iterators)

  steady_plain : (r : Relation) (xs : List ℤ) → IsSteadyRel n (rel_of r) xs
  steady_plain Less xs = tt
  steady_plain AtMost xs = tt
  steady_plain Greater xs = tt
  steady_plain AtLeast xs = tt
  steady_plain Equal xs = tt

  steady_rel : (part : Part) (d : Option Division) → whole_broken (compared_by names scope part d) ≡ None → IsSteadyRel n (rel_by part.relation d) (index_expr scope (compared_by names scope part d)).iters
  steady_rel part None b = steady_plain part.relation (index_expr scope (compared_by names scope part None)).iters
  steady_rel part (Some d) b =
      let j = divided names scope d in
      let u = unrefused_test names scope d b in
      subst (λ (c : Collected). own n (placed_form (compared_by names scope part (Some d)).place (form_or_zero scope c)).iters ≡ pos 0) (sym (open_form (is_refused scope d.divisor j) (is_long d.divisor) j.form u.1 u.0))
      (own_placed (compared_by names scope part (Some d)).place j.form (chain_shaped names scope d.operands d.operators) (not_refused scope d.divisor j u.1).4)

  -- a comparison that breaks no rule
  pub part_steady : (part : Part) → whole_broken (compared names scope part) ≡ None → IsSteady n (comparison names scope part)
  part_steady part b = record { quots = steady_form part; rel = steady_rel part (tested_division part) b }

  pub parts_steady : (parts : List Part) → AllByRecursion (λ part. whole_broken (compared names scope part) ≡ None) parts → AllByRecursion (IsSteady n) (condition names scope parts)
  parts_steady [] b = tt
  parts_steady (part ∷ parts) b = (part_steady part b.0, parts_steady parts b.1)
